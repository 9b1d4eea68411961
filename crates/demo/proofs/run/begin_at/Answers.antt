use Rattle.std.proofs.Common.{◌∙◌}
use Rattle.demo.proofs.RunParts.{begun}
use Rattle.demo.proofs.Touches.{after, fails, with_fault}
use Rattle.demo.proofs.run.begin_at.Goals as goal

pub launch-requires : goal.launch-requires
launch-requires g c = c.install.ensures.key ∙ c.requires

pub returns-in-Err : goal.returns-in-Err
returns-in-Err g c = λ seed site. fails g.D.Disk (with_fault g.D.Disk c.in-Err.fault (c.in-Err.ensures.goes seed site).touches)

pub returns-in-Ok-launch : goal.returns-in-Ok-launch
returns-in-Ok-launch g c = λ seed site.
    begun g.D.Disk seed c.in-Ok.installed _ c.args.updater.now c.install.new.updater c.launch.new.updater c.args.disk.now c.install.new.disk c.launch.new.disk
    (c.in-Ok.ensures.goes seed site) c.in-Ok-launch.ensures

pub returns-in-Err-launch : goal.returns-in-Err-launch
returns-in-Err-launch g c = λ seed site.
    fails g.D.Disk (after g.D.Disk (c.in-Ok.ensures.goes seed site).touches
    (with_fault g.D.Disk c.in-Err-launch.fault c.in-Err-launch.ensures.touches))
