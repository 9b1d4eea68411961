use Rattle.std.proofs.Common.{◌∙◌, [], length, ap, refl}
use Rattle.machine.specs.declared.command.Command.TheVariants as command
use Rattle.machine.specs.declared.reply.Reply.TheVariants as says
use Rattle.store_state.specs.declared.change.Change.TheVariants as change
use Rattle.install_plan.proofs.Downs.{counts_none}
use Rattle.updater.proofs.Cleanings.{cleaned_does, cleaned_rests}
use Rattle.updater.proofs.CommandEnds.{kept, memory_missed, rested, unlinked}
use Rattle.updater.proofs.Seen.{kept_as, rested_as, seen}
use Rattle.updater.proofs.updater.Updater.clean.Goals as goal

pub returns-then-views-eq0 : goal.returns-then-views-eq0
returns-then-views-eq0 g c =
    let u = seen c.self.inside in
    rested_as c.self.view_is
    (rested g.D.Disk g.L.Links c.args.now [] command.Clean
    u c.args.disk.now c.args._links.now c.args._links.now
    (g.met.D.Disk.seen_left c.args.disk.now) c.requires
    (unlinked g.L.Links command.Clean u c.args._links.now)
    (says.Cleaned (length c.as_slice.result.now)) c.requires
    (counts_none refl) (λ e. tt)
    (λ old s. cleaned_rests c.args.now u.room u.state
    _ _ _ old s.jobs s.shows s.valid c.requires (length c.as_slice.result.now)
    (ap length (c.as_slice.ensures ∙ c.in-Ok.ensures u.room)) c.if-views-eq0.true))

pub returns-in-Err-Memory : goal.returns-in-Err-Memory
returns-in-Err-Memory g c =
    memory_missed g.D.Disk g.L.Links c.args.now command.Clean
    c.args.self.now c.args.disk.now c.args._links.now
    (g.met.D.Disk.seen_left c.args.disk.now) c.requires tt tt

pub returns : goal.returns
returns g c =
    let u = seen c.self.inside in
    kept_as c.self.view_is c.keep_lighter.ensures (λ keeps.
    kept g.D.Disk g.L.Links c.args.now [] command.Clean
    u c.args.disk.now c.args._links.now c.args._links.now
    (g.met.D.Disk.seen_left c.args.disk.now) c.requires
    (unlinked g.L.Links command.Clean u c.args._links.now)
    change.Clean (says.Cleaned (length c.as_slice.result.now)) c.requires
    (counts_none refl) (λ e. tt)
    (λ old s. cleaned_does c.args.now u.room u.state
    _ _ _ old s.jobs s.shows s.valid c.requires (length c.as_slice.result.now)
    (ap length (c.as_slice.ensures ∙ c.in-Ok.ensures u.room)) c.if-views-eq0.false)
    (λ takes. memory_missed g.D.Disk g.L.Links c.args.now command.Clean
    u c.args.disk.now c.args._links.now
    (g.met.D.Disk.seen_left c.args.disk.now) c.requires tt tt)
    c.keep_lighter.new.self c.keep_lighter.new.disk c.keep_lighter.result c.answer.result keeps c.answer.ensures)
