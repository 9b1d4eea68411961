use Rattle.std.proofs.Common.{[], ◌≤◌, ℕ, subst, sym, refl}
use Rattle.small_types.specs.declared.limits.TheConstants.{NUMBER_LIMIT}
use Rattle.machine.specs.declared.command.Command.TheVariants as command
use Rattle.machine.specs.declared.reply.Reply.TheVariants as says
use Rattle.store_state.specs.declared.change.Change.TheVariants as change
use Rattle.install_plan.proofs.Downs.{counts_none}
use Rattle.updater.proofs.CommandEnds.{kept, refused, unlinked, takes_none}
use Rattle.updater.proofs.LaunchChange.{launched_does}
use Rattle.updater.proofs.ShownViews.{keeps_current}
use Rattle.updater.proofs.Seen.{kept_as, rested_as, seen}
use Rattle.updater.proofs.updater.Updater.launch.Goals as goal

pub returns-in-Err : goal.returns-in-Err
returns-in-Err g c =
    let u = seen c.self.inside in
    rested_as c.self.view_is
    (refused g.D.Disk g.L.Links c.args.now (command.Launch c.args.key.now)
    u c.args.disk.now c.args._links.now
    (g.met.D.Disk.seen_left c.args.disk.now) c.requires.moment tt c.in-Err.reply
    (subst (λ (n : ℕ). n ≤ NUMBER_LIMIT) (sym c.in-Err.ensures.still) c.requires.moment)
    (counts_none c.in-Err.ensures.no_target) c.in-Err.ensures.not_memory
    (λ old s. c.in-Err.ensures.refused (keeps_current s.shows c.args.key.now s.valid.ordered)
    u.room old))

pub returns : goal.returns
returns g c =
    let command = command.Launch c.args.key.now in
    let u = seen c.self.inside in
    kept_as c.self.view_is c.keep_lighter.ensures (λ keeps.
    kept g.D.Disk g.L.Links c.args.now [] command
    u c.args.disk.now c.args._links.now c.args._links.now
    (g.met.D.Disk.seen_left c.args.disk.now) c.requires.moment
    (unlinked g.L.Links command u c.args._links.now)
    (change.Launch c.in-Ok.start.app)
    (says.Lease c.in-Ok.start.lease c.in-Ok.start.version c.in-Ok.start.check_due) c.requires.moment
    (counts_none refl) (λ e. absurd (cc))
    (λ old s. launched_does c.args.now c.args.key.now u.room u.state
    _ _ _ old s.jobs s.shows s.valid c.requires.words c.requires.moment
    c.in-Ok.start c.in-Ok.ensures.start)
    (λ takes. takes_none takes)
    c.keep_lighter.new.self c.keep_lighter.new.disk c.keep_lighter.result c.answer.result keeps c.answer.ensures)
