use Rattle.std.proofs.Common.{◌∙◌, List, ℕ, sym, subst}
use Rattle.machine.specs.declared.command.Command.TheVariants.{Install}
use Rattle.machine.specs.Words.{IsUrl}
use Rattle.demo.specs.declared.fault.DemoFault.TheVariants.{Memory}
use Rattle.demo.specs.Parts.{CommandReplies}
use Rattle.demo.proofs.Touches.{untouched}
use Rattle.demo.proofs.Urls.{is_url}
use Rattle.demo.proofs.lines.ask_install.Goals as goal

pub answer_once-requires : goal.answer_once-requires
answer_once-requires g c = subst IsUrl (sym (c.in-Ok.ensures ∙ c.url.ensures)) (is_url c.args.release)

pub returns-in-Ok : goal.returns-in-Ok
returns-in-Ok g c =
    subst (λ (url : List ℕ). CommandReplies g.D.Disk g.L.Links (Install url) c.args.updater.now c.args.disk.now c.args.links.now c.answer_once.result c.answer_once.new.updater c.answer_once.new.disk c.answer_once.new.links)
    (c.in-Ok.ensures ∙ c.url.ensures) c.answer_once.ensures

pub returns-in-Err : goal.returns-in-Err
returns-in-Err g c = record { line = λ tells old holds sound. tt; touches = untouched g.D.Disk c.args.disk.now Memory (λ is. cc (is), λ is. cc (is)) }
