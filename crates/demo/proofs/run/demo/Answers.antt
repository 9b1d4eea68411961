use Rattle.demo.proofs.Touches.{after, with_fault}
use Rattle.demo.proofs.run.demo.Goals as goal

pub returns-in-Ok : goal.returns-in-Ok
returns-in-Ok g c = record {
  run = λ tells. c.live.ensures.run tells (c.in-Ok.ensures.begins (c.live.ensures.touches.told tells));
  touches = after g.D.Disk c.in-Ok.ensures.touches c.live.ensures.touches;
}

pub returns-in-Err-clause-touches : goal.returns-in-Err-clause-touches
returns-in-Err-clause-touches g c = with_fault g.D.Disk c.in-Err.fault c.in-Err.ensures.touches
