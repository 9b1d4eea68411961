use Rattle.std.proofs.Common.{[], subst, sym, refl}
use Rattle.identity.specs.declared.key.Key.{Key}
use Rattle.machine.specs.declared.command.Command.TheVariants as command
use Rattle.machine.specs.declared.reply.Reply.TheVariants as says
use Rattle.store_state.specs.declared.change.Change.TheVariants as change
use Rattle.install_plan.proofs.Downs.{counts_none}
use Rattle.updater.proofs.CommandEnds.{Does, kept, left_on, memory_missed, unlinked}
use Rattle.updater.proofs.KeyRoom.{required_light}
use Rattle.updater.proofs.RequireChange.{required_does, required_fits}
use Rattle.updater.specs.Shown.{Updater}
use Rattle.machine.specs.Machine.{refusals}
use Rattle.machine.specs.Rows.{PassesAll}
use Rattle.store_state.specs.Tables.{table_shape}
use Rattle.updater.specs.KeepsChange.{MayKeep}
use Rattle.updater.proofs.updater.Updater.raise.Goals as goal

pub keep-requires-clause-may : goal.keep-requires-clause-may
keep-requires-clause-may g c =
    let passed = subst (λ (u : Updater). PassesAll (refusals c.args._now [] (table_shape u.room u.state) (command.Require c.args.key.now c.args.version))) (sym c.self.view_is) c.requires.passed in
    let fits = required_fits c.args._now c.self.inside.state c.args.key.now c.args.version c.requires.words.0 c.requires.words.1 c.self.inside.room passed in
    let light = required_light c.changed_tables_weigh.ensures.with_key c.changed_tables_weigh.ensures.others c.args._now c.self.inside.log c.self.inside.room c.self.inside.state c.args.key.now c.args.version
    c.self.invariant.0 c.are_tables.ensures fits passed in
    subst (λ (key : Key). MayKeep c.args.self.now (change.Require key c.args.version)) (sym c.in-Ok.ensures)
    (subst (λ (u : Updater). MayKeep u (change.Require c.args.key.now c.args.version)) c.self.view_is
    (record { fits = fits; has = (fits.0, fits.1); short = tt; light = light; measured = tt }))

pub returns : goal.returns
returns g c =
    let command = command.Require c.args.key.now c.args.version in
    let fits = required_fits c.args._now c.args.self.now.state c.args.key.now c.args.version c.requires.words.0 c.requires.words.1 c.args.self.now.room c.requires.passed in
    kept g.D.Disk g.L.Links c.args._now [] command c.args.self.now c.args.disk.now c.args._links.now c.args._links.now (g.met.D.Disk.seen_left c.args.disk.now) c.requires.moment
    (unlinked g.L.Links command c.args.self.now c.args._links.now)
    (change.Require c.in-Ok.key c.args.version) (says.Minimum c.args.version) c.requires.moment
    (counts_none refl) (λ e. tt)
    (λ old s. subst (λ (key : Key). Does c.args._now [] command (g.L.Links.links c.args._links.now) (g.L.Links.links c.args._links.now) (change.Require key c.args.version) c.args.self.now.state (g.D.Disk.seen c.args.disk.now) (left_on g.D.Disk c.args.disk.now) old (says.Minimum c.args.version)) (sym c.in-Ok.ensures)
    (required_does c.args._now c.args.key.now c.args.version _ c.args.self.now.state _ _ _ old s.jobs s.shows c.requires.passed fits s.valid c.requires.raises))
    (λ takes. memory_missed g.D.Disk g.L.Links c.args._now command c.args.self.now c.args.disk.now c.args._links.now (g.met.D.Disk.seen_left c.args.disk.now) c.requires.moment tt tt)
    c.keep.new.self c.keep.new.disk c.keep.result c.answer.result c.keep.ensures c.answer.ensures

pub returns-in-Err-Memory : goal.returns-in-Err-Memory
returns-in-Err-Memory g c =
    memory_missed g.D.Disk g.L.Links c.args._now (command.Require c.args.key.now c.args.version) c.args.self.now c.args.disk.now
    c.args._links.now (g.met.D.Disk.seen_left c.args.disk.now) c.requires.moment tt tt
