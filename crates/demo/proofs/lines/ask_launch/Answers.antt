use Rattle.std.proofs.Common.{sym, subst}
use Rattle.identity.specs.declared.key.Key.{Key}
use Rattle.identity.specs.Key.{IsKey}
use Rattle.machine.specs.declared.command.Command.TheVariants.{Launch}
use Rattle.demo.specs.declared.fault.DemoFault.TheVariants.{Memory}
use Rattle.demo.specs.Parts.{CommandReplies}
use Rattle.demo.proofs.Touches.{untouched}
use Rattle.demo.proofs.lines.ask_launch.Goals as goal

pub answer_once-requires : goal.answer_once-requires
answer_once-requires g c = subst IsKey (sym c.in-Ok.ensures) c.requires

pub returns-in-Ok : goal.returns-in-Ok
returns-in-Ok g c =
    subst (λ (key : Key). CommandReplies g.D.Disk g.L.Links (Launch key) c.args.updater.now c.args.disk.now c.args.links.now c.answer_once.result c.answer_once.new.updater c.answer_once.new.disk c.answer_once.new.links)
    c.in-Ok.ensures c.answer_once.ensures

pub returns-in-Err-Memory : goal.returns-in-Err-Memory
returns-in-Err-Memory g c = record { line = λ tells old holds sound. tt; touches = untouched g.D.Disk c.args.disk.now Memory (λ is. cc (is), λ is. cc (is)) }
