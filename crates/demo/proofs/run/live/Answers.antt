use Rattle.std.proofs.Common.{rules, IsTrue, refl}
use Rattle.demo.proofs.RunParts.{demonstrates}
use Rattle.demo.proofs.Touches.{after, with_answer, with_fault, with_other}
use Rattle.demo.specs.declared.fault.DemoFault.TheVariants.{OtherFiles}
use Rattle.demo.proofs.run.live.Goals as goal

pub returns-in-Err-clause-touches : goal.returns-in-Err-clause-touches
returns-in-Err-clause-touches g c = with_fault g.D.Disk c.in-Err.fault c.in-Err.ensures.touches

pub returns-in-Err-update-clause-touches : goal.returns-in-Err-update-clause-touches
returns-in-Err-update-clause-touches g c = after g.D.Disk c.in-Ok.ensures.touches (with_fault g.D.Disk c.in-Err-update.fault c.in-Err-update.ensures.touches)

pub returns-in-Err-end-clause-touches : goal.returns-in-Err-end-clause-touches
returns-in-Err-end-clause-touches g c =
    after g.D.Disk c.in-Ok.ensures.touches (after g.D.Disk c.in-Ok-update.ensures.touches (with_fault g.D.Disk c.in-Err-end.fault c.in-Err-end.ensures.touches))

pub returns-in-Ok-false-clause-touches : goal.returns-in-Ok-false-clause-touches
returns-in-Ok-false-clause-touches g c =
    after g.D.Disk c.in-Ok.ensures.touches (after g.D.Disk c.in-Ok-update.ensures.touches (after g.D.Disk c.in-Ok-end.ensures.touches
    (with_other g.D.Disk OtherFiles (λ is. cc (is), λ is. cc (is)) c.in-Ok-false.ensures.touches)))

pub returns-in-Err-keeps_generated-clause-touches : goal.returns-in-Err-keeps_generated-clause-touches
returns-in-Err-keeps_generated-clause-touches g c =
    after g.D.Disk c.in-Ok.ensures.touches (after g.D.Disk c.in-Ok-update.ensures.touches (after g.D.Disk c.in-Ok-end.ensures.touches
    (with_fault g.D.Disk c.in-Err-keeps_generated.fault c.in-Err-keeps_generated.ensures.touches)))

pub returns-clause-run : goal.returns-clause-run
returns-clause-run g c = λ tells opened.
    let yes : IsTrue c.in-Ok-true.field-0 = search rules in
    demonstrates g.D.Disk c.args.seed _ c.args.updater.now c.begin.new.updater c.update.new.updater c.end.new.updater c.args.disk.now c.begin.new.disk c.update.new.disk c.end.new.disk c.keeps_generated.new.disk c.in-Ok-true.field-0 tells refl
    opened c.in-Ok.ensures c.in-Ok-update.ensures c.in-Ok-end.ensures c.in-Ok-true.ensures yes c.used_blocks.ensures (g.met.D.Disk.seen_left c.end.new.disk)

pub returns-clause-touches : goal.returns-clause-touches
returns-clause-touches g c =
    after g.D.Disk c.in-Ok.ensures.touches (after g.D.Disk c.in-Ok-update.ensures.touches (after g.D.Disk c.in-Ok-end.ensures.touches
    (with_answer g.D.Disk _ c.in-Ok-true.ensures.touches)))
