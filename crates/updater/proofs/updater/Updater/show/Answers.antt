use Rattle.std.proofs.Common.{[], sym, refl}
use Rattle.machine.specs.declared.command.Command.TheVariants as command
use Rattle.machine.specs.declared.reply.Reply.TheVariants as says
use Rattle.machine.specs.Entries.{entry_of}
use Rattle.install_plan.proofs.Downs.{counts_none}
use Rattle.updater.proofs.CommandEnds.{memory_missed, refused, rested, unlinked}
use Rattle.updater.proofs.Lists.{not_shown, shown_rests}
use Rattle.updater.proofs.Seen.{rested_as, seen}
use Rattle.updater.proofs.updater.Updater.show.Goals as goal

pub returns-in_default : goal.returns-in_default
returns-in_default g c =
    let u = seen c.self.inside in
    rested_as c.self.view_is
    (refused g.D.Disk g.L.Links c.args.now (command.Show c.args.key.now)
    u c.args._disk.now c.args._links.now
    (g.met.D.Disk.seen_left c.args._disk.now) c.requires tt says.NotInstalled c.requires
    (counts_none refl) (λ e. tt)
    (λ old s. not_shown c.args.key.now u.room u.state old
    (sym {b = entry_of c.args.key.now c.self.inside.state.apps} c.in_default.ensures)))

pub returns-in-Ok : goal.returns-in-Ok
returns-in-Ok g c =
    let u = seen c.self.inside in
    rested_as c.self.view_is
    (rested g.D.Disk g.L.Links c.args.now [] (command.Show c.args.key.now)
    u c.args._disk.now c.args._links.now c.args._links.now
    (g.met.D.Disk.seen_left c.args._disk.now) c.requires
    (unlinked g.L.Links (command.Show c.args.key.now) u c.args._links.now)
    (says.Shown c.in-Ok.row) c.requires
    (counts_none refl) (λ e. tt)
    (λ old s. shown_rests c.args.now u.room u.state
    _ _ _ old s.jobs s.shows c.args.key.now c.in-Some.app.now c.in-Ok.row
    (sym {b = entry_of c.args.key.now c.self.inside.state.apps} c.in-Some.ensures) c.in-Ok.ensures))

pub returns-in-Err-Memory : goal.returns-in-Err-Memory
returns-in-Err-Memory g c =
    memory_missed g.D.Disk g.L.Links c.args.now (command.Show c.args.key.now) c.args.self.now c.args._disk.now
    c.args._links.now (g.met.D.Disk.seen_left c.args._disk.now) c.requires tt tt
