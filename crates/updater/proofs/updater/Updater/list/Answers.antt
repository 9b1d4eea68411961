use Rattle.std.proofs.Common.{[], refl}
use Rattle.machine.specs.declared.command.Command.TheVariants as command
use Rattle.machine.specs.declared.reply.Reply.TheVariants as says
use Rattle.install_plan.proofs.Downs.{counts_none}
use Rattle.updater.proofs.CommandEnds.{memory_missed, rested, unlinked}
use Rattle.updater.proofs.Lists.{listed_rests}
use Rattle.updater.proofs.Seen.{rested_as, seen}
use Rattle.updater.proofs.updater.Updater.list.Goals as goal

pub returns-in-Ok : goal.returns-in-Ok
returns-in-Ok g c =
    let u = seen c.self.inside in
    rested_as c.self.view_is
    (rested g.D.Disk g.L.Links c.args.now [] command.List
    u c.args._disk.now c.args._links.now c.args._links.now
    (g.met.D.Disk.seen_left c.args._disk.now) c.requires
    (unlinked g.L.Links command.List u c.args._links.now)
    (says.Listed c.in-Ok.rows) c.requires
    (counts_none refl) (λ e. tt)
    (λ old s. listed_rests c.args.now u.room u.state
    _ _ _ old s.jobs s.shows c.in-Ok.rows c.in-Ok.ensures))

pub returns-in-Err-Memory : goal.returns-in-Err-Memory
returns-in-Err-Memory g c =
    memory_missed g.D.Disk g.L.Links c.args.now command.List c.args.self.now c.args._disk.now
    c.args._links.now (g.met.D.Disk.seen_left c.args._disk.now) c.requires tt tt
