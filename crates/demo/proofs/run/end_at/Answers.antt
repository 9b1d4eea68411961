use Rattle.demo.proofs.RunParts.{ended}
use Rattle.demo.proofs.Touches.{after, fails, with_fault}
use Rattle.demo.proofs.run.end_at.Goals as goal

pub returns-in-Err : goal.returns-in-Err
returns-in-Err g c = λ seed site. fails g.D.Disk (with_fault g.D.Disk c.in-Err.fault (c.in-Err.ensures.goes seed site).touches)

pub returns-in-Ok-leave : goal.returns-in-Ok-leave
returns-in-Ok-leave g c = λ seed site.
    ended g.D.Disk seed c.in-Ok.installed _ c.args.updater.now c.install.new.updater c.leave.new.updater c.args.disk.now c.install.new.disk c.leave.new.disk
    (c.in-Ok.ensures.goes seed site) c.in-Ok-leave.ensures

pub returns-in-Err-leave : goal.returns-in-Err-leave
returns-in-Err-leave g c = λ seed site.
    fails g.D.Disk (after g.D.Disk (c.in-Ok.ensures.goes seed site).touches (with_fault g.D.Disk c.in-Err-leave.fault c.in-Err-leave.ensures.touches))
