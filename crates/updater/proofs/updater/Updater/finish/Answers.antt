use Rattle.std.proofs.Common.{[], ◌≤◌, ℕ, refl, subst, sym, arith}
use Rattle.small_types.specs.declared.limits.TheConstants.{NUMBER_LIMIT}
use Rattle.machine.specs.declared.command.Command.TheVariants as command
use Rattle.machine.specs.declared.reply.Reply.TheVariants as says
use Rattle.store_state.specs.declared.change.Change.TheVariants as change
use Rattle.install_plan.proofs.Downs.{counts_none}
use Rattle.updater.proofs.CommandEnds.{kept, refused, unlinked, takes_none}
use Rattle.updater.proofs.FinishChange.{finished_does, finished_fits}
use Rattle.updater.proofs.Seen.{kept_as, rested_as, seen}
use Rattle.updater.specs.Shown.{Updater}
use Rattle.store_state.specs.Change.{Fits}
use Rattle.updater.proofs.updater.Updater.finish.Goals as goal

pub returns-in-Some : goal.returns-in-Some
returns-in-Some g c =
    let u = seen c.self.inside in
    rested_as c.self.view_is
    (refused g.D.Disk g.L.Links c.args.now (command.Finish c.args.lease)
    u c.args.disk.now c.args._links.now
    (g.met.D.Disk.seen_left c.args.disk.now) c.requires.moment tt c.in-Some.reply
    (subst (λ (n : ℕ). n ≤ NUMBER_LIMIT) (sym (c.in-Some.ensures.still c.args.now))
    c.requires.moment)
    (counts_none c.in-Some.ensures.no_target) c.in-Some.ensures.not_memory
    (λ old s. c.in-Some.ensures.some c.args.now u.room old))

pub keep_lighter-requires-clause-may : goal.keep_lighter-requires-clause-may
keep_lighter-requires-clause-may g c = (
  subst (λ (u : Updater). Fits u.state (change.Finish c.args.lease)) c.self.view_is (finished_fits c.self.inside.state c.args.lease (c.in_default.ensures.none refl)),
  (let few = c.requires.words in omega arith),
)

pub returns : goal.returns
returns g c =
    let command = command.Finish c.args.lease in
    let u = seen c.self.inside in
    kept_as c.self.view_is c.keep_lighter.ensures (λ keeps.
    kept g.D.Disk g.L.Links c.args.now [] command
    u c.args.disk.now c.args._links.now c.args._links.now
    (g.met.D.Disk.seen_left c.args.disk.now) c.requires.moment
    (unlinked g.L.Links command u c.args._links.now)
    (change.Finish c.args.lease) (says.Finished c.args.lease) c.requires.moment
    (counts_none refl) (λ e. absurd (cc))
    (λ old s. finished_does c.args.now c.args.lease u.room u.state
    _ _ _ old s.jobs s.shows s.valid c.requires.words c.requires.moment
    (c.in_default.ensures.none refl c.args.now u.room))
    (λ takes. takes_none takes)
    c.keep_lighter.new.self c.keep_lighter.new.disk c.keep_lighter.result c.answer.result keeps c.answer.ensures)
