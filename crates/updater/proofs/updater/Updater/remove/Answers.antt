use Rattle.std.proofs.Common.{[], ◌≤◌, ℕ, List, rules, subst, sym, refl}
use Rattle.small_types.specs.declared.limits.TheConstants.{NUMBER_LIMIT}
use Rattle.machine.specs.declared.command.Command.TheVariants as command
use Rattle.machine.specs.declared.reply.Reply.TheVariants as says
use Rattle.small_types.specs.Name.{IsName}
use Rattle.store_state.specs.declared.change.Change.TheVariants as change
use Rattle.store_state.specs.Change.{Fits}
use Rattle.install_plan.proofs.Downs.{counts_none}
use Rattle.updater.proofs.CommandEnds.{Does, kept, left_on, memory_missed, refused, unlinked}
use Rattle.updater.proofs.DataRemoved.{removal_does, removal_fits}
use Rattle.updater.proofs.ShownViews.{keeps_view}
use Rattle.updater.proofs.Seen.{kept_as, rested_as, seen}
use Rattle.updater.specs.Shown.{Updater}
use Rattle.updater.proofs.updater.Updater.remove.Goals as goal

pub returns-in-Err : goal.returns-in-Err
returns-in-Err g c =
    let u = seen c.self.inside in
    rested_as c.self.view_is
    (refused g.D.Disk g.L.Links c.args.now (command.Remove c.args.lease c.args.name.now)
    u c.args.disk.now c.args._links.now
    (g.met.D.Disk.seen_left c.args.disk.now) c.requires.moment tt c.in-Err.reply
    (subst (λ (n : ℕ). n ≤ NUMBER_LIMIT) (sym (c.in-Err.ensures.still c.args.now))
    c.requires.moment)
    (counts_none c.in-Err.ensures.no_target) (λ e. tt)
    (λ old s. c.in-Err.ensures.refused (keeps_view s.shows c.args.lease s.valid.ordered)
    u.room old))

pub returns-in-Err-Memory : goal.returns-in-Err-Memory
returns-in-Err-Memory g c =
    memory_missed g.D.Disk g.L.Links c.args.now (command.Remove c.args.lease c.args.name.now)
    c.args.self.now c.args.disk.now c.args._links.now
    (g.met.D.Disk.seen_left c.args.disk.now) c.requires.moment tt tt

pub keep_lighter-requires-clause-may : goal.keep_lighter-requires-clause-may
keep_lighter-requires-clause-may g c = (
  subst (λ (name : List ℕ). Fits c.args.self.now.state (change.Remove c.in-Ok.view name))
      (sym c.in-Ok-copy.ensures)
      (subst (λ (u : Updater). Fits u.state (change.Remove c.in-Ok.view c.args.name.now)) c.self.view_is
      (removal_fits c.args.lease c.args.name.now c.self.inside.state c.in-Ok.view
      c.in-Ok.ensures.removal)),
  (
    search rules,
    subst (λ (name : List ℕ). IsName name) (sym c.in-Ok-copy.ensures)
        c.requires.words.1,
  ),
)

pub returns : goal.returns
returns g c =
    let command = command.Remove c.args.lease c.args.name.now in
    let u = seen c.self.inside in
    kept_as c.self.view_is c.keep_lighter.ensures (λ keeps.
    kept g.D.Disk g.L.Links c.args.now [] command
    u c.args.disk.now c.args._links.now c.args._links.now
    (g.met.D.Disk.seen_left c.args.disk.now) c.requires.moment
    (unlinked g.L.Links command u c.args._links.now)
    (change.Remove c.in-Ok.view c.in-Ok-copy.name) says.Removed c.requires.moment
    (counts_none refl) (λ e. tt)
    (λ old s. subst
    (λ (name : List ℕ). Does c.args.now [] command (g.L.Links.links c.args._links.now)
    (g.L.Links.links c.args._links.now) (change.Remove c.in-Ok.view name) u.state
    (g.D.Disk.seen c.args.disk.now) (left_on g.D.Disk c.args.disk.now) old says.Removed) (sym c.in-Ok-copy.ensures)
    (removal_does c.args.now c.args.lease u.room c.args.name.now
    u.state _ _ _ old s.jobs s.shows s.valid c.requires.words c.requires.moment
    c.in-Ok.view c.in-Ok.ensures.removal c.removals_show_the_rest.ensures
    c.one_data_file_is_changed.ensures.removed))
    (λ takes. memory_missed g.D.Disk g.L.Links c.args.now command
    u c.args.disk.now c.args._links.now
    (g.met.D.Disk.seen_left c.args.disk.now) c.requires.moment tt tt)
    c.keep_lighter.new.self c.keep_lighter.new.disk c.keep_lighter.result c.answer.result keeps c.answer.ensures)
