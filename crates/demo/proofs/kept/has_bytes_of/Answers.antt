use Rattle.std.proofs.Common.{◌∙◌, refl}
use Rattle.demo.proofs.Looks.{looks_compared, looks_lacking, looks_unread}
use Rattle.demo.specs.declared.fault.DemoFault.TheVariants.{Memory}
use Rattle.demo.proofs.kept.has_bytes_of.Goals as goal

pub returns-in-Err : goal.returns-in-Err
returns-in-Err g c =
    looks_lacking g.D.Disk c.args.updater.now _ c.args.disk.now Memory (λ is. cc (is), λ is. cc (is))

pub returns-in-Ok-has_content : goal.returns-in-Ok-has_content
returns-in-Ok-has_content g c =
    looks_compared g.D.Disk c.args.updater.now c.args.disk.now c.has_content.new.disk c.args.content.now
    _ _ c.in-Ok-has_content.same _ (c.as_slice.ensures ∙ c.in-Ok.ensures) (λ e. absurd (cc (e)))
    c.in-Ok-has_content.ensures.same c.in-Ok-has_content.ensures.still c.in-Ok-has_content.ensures.spends

pub returns : goal.returns
returns g c =
    looks_unread g.D.Disk c.args.updater.now _ c.args.disk.now c.has_content.new.disk _ refl
    c.in-Err-has_content.ensures.still c.in-Err-has_content.ensures.spends
