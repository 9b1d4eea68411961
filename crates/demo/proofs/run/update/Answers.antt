use Rattle.demo.proofs.Touches.{fails, untouched}
use Rattle.demo.proofs.run.update.Goals as goal

pub returns-in-Ok : goal.returns-in-Ok
returns-in-Ok g c = c.install.ensures.goes c.args.seed c.in-Ok.ensures.site

pub returns-in-Err : goal.returns-in-Err
returns-in-Err g c = fails g.D.Disk (untouched g.D.Disk c.args.disk.now c.in-Err.fault c.in-Err.ensures.fault)
