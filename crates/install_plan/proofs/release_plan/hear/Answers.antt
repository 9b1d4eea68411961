use Rattle.install_plan.proofs.Course.{at_address}
use Rattle.install_plan.proofs.release_plan.hear.Goals as goal

pub returns-in-Err : goal.returns-in-Err
returns-in-Err g c = record { plan = tt; refused = at_address c.requires.empty c.in-Err.ensures.judged }

pub returns-in-Ok-hear_at : goal.returns-in-Ok-hear_at
returns-in-Ok-hear_at g c = record {
  plan = c.in-Ok-hear_at.ensures.plan c.args.url.now c.in-Ok.ensures.read;
  refused = tt;
}

pub returns-in-Err-hear_at : goal.returns-in-Err-hear_at
returns-in-Err-hear_at g c = record {
  plan = tt;
  refused = c.in-Err-hear_at.ensures.refused c.args.url.now c.in-Ok.ensures.read;
}
