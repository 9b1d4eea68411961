use Rattle.demo.proofs.RunParts.{left}
use Rattle.demo.proofs.Touches.{after, fails, with_fault}
use Rattle.demo.proofs.run.leave.Goals as goal

pub returns-in-Err : goal.returns-in-Err
returns-in-Err g c = fails g.D.Disk (with_fault g.D.Disk c.in-Err.fault c.in-Err.ensures.touches)

pub returns-in-Err-finish : goal.returns-in-Err-finish
returns-in-Err-finish g c = fails g.D.Disk (after g.D.Disk c.in-Ok.ensures.touches (with_fault g.D.Disk c.in-Err-finish.fault c.in-Err-finish.ensures.touches))

pub returns-in-Ok-clean : goal.returns-in-Ok-clean
returns-in-Ok-clean g c =
    left g.D.Disk _ _ _ c.args.updater.now c.clean.new.updater c.finish.new.updater c.clean-2.new.updater c.args.disk.now c.clean.new.disk c.finish.new.disk c.clean-2.new.disk
    c.in-Ok.ensures c.in-Ok-finish.ensures c.in-Ok-clean.ensures

pub returns-in-Err-clean : goal.returns-in-Err-clean
returns-in-Err-clean g c =
    fails g.D.Disk (after g.D.Disk c.in-Ok.ensures.touches (after g.D.Disk c.in-Ok-finish.ensures.touches (with_fault g.D.Disk c.in-Err-clean.fault c.in-Err-clean.ensures.touches)))
