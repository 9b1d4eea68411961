use Rattle.std.proofs.Common.{refl}
use Rattle.machine.specs.declared.command.Command.TheVariants.{Clean}
use Rattle.machine.specs.declared.reply.Reply.TheVariants as says
use Rattle.demo.proofs.RunLine.{judged}
use Rattle.demo.proofs.Touches.{fails, with_fault}
use Rattle.demo.proofs.lines.clean.Goals as goal

pub returns-in-Err : goal.returns-in-Err
returns-in-Err g c = fails g.D.Disk (with_fault g.D.Disk c.in-Err.fault c.in-Err.ensures.touches)

pub returns-in-Ok : goal.returns-in-Ok
returns-in-Ok g c =
    judged g.D.Disk _ Clean c.args.updater.now c.args.disk.now c.args.site.now.links c.answer_once.new.updater c.answer_once.new.disk c.answer_once.new.links
    c.cleaned.result Clean c.in-Ok.said.0 c.in-Ok.said.1 (says.Cleaned c.args.count) (λ shape texts is. is) tt refl c.in-Ok.ensures c.cleaned.ensures.cleaned c.cleaned.ensures.fault
