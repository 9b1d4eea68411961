use Rattle.demo.proofs.Touches.{fails, untouched}
use Rattle.demo.proofs.run.begin.Goals as goal

pub begin_at-requires : goal.begin_at-requires
begin_at-requires g c = c.in-Ok.ensures.site.key

pub returns-in-Ok : goal.returns-in-Ok
returns-in-Ok g c = c.begin_at.ensures c.args.seed c.in-Ok.ensures.site

pub returns-in-Err : goal.returns-in-Err
returns-in-Err g c = fails g.D.Disk (untouched g.D.Disk c.args.disk.now c.in-Err.fault c.in-Err.ensures.fault)
