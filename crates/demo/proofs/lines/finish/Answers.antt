use Rattle.std.proofs.Common.{arith, refl}
use Rattle.machine.specs.declared.command.Command.TheVariants.{Finish}
use Rattle.machine.specs.declared.reply.Reply.TheVariants as says
use Rattle.demo.proofs.RunLine.{judged}
use Rattle.demo.proofs.Touches.{fails, with_fault}
use Rattle.demo.proofs.lines.finish.Goals as goal

pub returns-in-Err : goal.returns-in-Err
returns-in-Err g c = fails g.D.Disk (with_fault g.D.Disk c.in-Err.fault c.in-Err.ensures.touches)

pub returns-in-Ok : goal.returns-in-Ok
returns-in-Ok g c =
    judged g.D.Disk _ (Finish 1) c.args.updater.now c.args.disk.now c.args.site.now.links c.answer_once.new.updater c.answer_once.new.disk c.answer_once.new.links
    c.finished.result (Finish 1) c.in-Ok.said.0 c.in-Ok.said.1 (says.Finished 1) (λ shape texts is. is) (omega arith) refl c.in-Ok.ensures c.finished.ensures.finished c.finished.ensures.fault
