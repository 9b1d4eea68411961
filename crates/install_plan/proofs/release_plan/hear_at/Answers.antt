use Rattle.install_plan.proofs.Course.{at_application, at_deployment, at_judgement, at_plan, at_release, provider_read, size_below}
use Rattle.install_plan.proofs.release_plan.hear_at.Goals as goal

pub hear_application-requires : goal.hear_application-requires
hear_application-requires g c = record { below = size_below c.in-Ok.ensures.told }

pub judge_heard-requires : goal.judge_heard-requires
judge_heard-requires g c = record { read = provider_read c.in-Ok.ensures.told }

pub returns-in-Err : goal.returns-in-Err
returns-in-Err g c = record {
  plan = λ url read. tt;
  refused = λ url read. at_deployment c.requires.empty read c.hear_deployment.ensures.kept c.in-Err.ensures.stopped;
}

pub returns-in-Err-judge_deployment : goal.returns-in-Err-judge_deployment
returns-in-Err-judge_deployment g c = record {
  plan = λ url read. tt;
  refused = λ url read. at_judgement c.requires.empty read c.hear_deployment.ensures.kept c.in-Ok.ensures.told
      (c.in-Err-judge_deployment.ensures.judged c.args.room);
}

pub returns-in-Err-hear_application : goal.returns-in-Err-hear_application
returns-in-Err-hear_application g c = record {
  plan = λ url read. tt;
  refused = λ url read. at_application c.requires.empty read c.hear_deployment.ensures.kept c.in-Ok.ensures.told
      c.in-Ok-judge_deployment.ensures.joined (c.in-Ok-judge_deployment.ensures.judged c.args.room) c.hear_application.ensures.kept
      c.in-Err-hear_application.ensures.stopped;
}

pub returns-in-Err-judge_heard : goal.returns-in-Err-judge_heard
returns-in-Err-judge_heard g c = record {
  plan = λ url read. tt;
  refused = λ url read. at_release c.requires.empty read c.hear_deployment.ensures.kept c.in-Ok.ensures.told
      c.in-Ok-judge_deployment.ensures.joined (c.in-Ok-judge_deployment.ensures.judged c.args.room) c.hear_application.ensures.kept
      c.in-Ok-hear_application.ensures.told (c.in-Err-judge_heard.ensures.judged url);
}

pub returns-in-Ok-judge_heard : goal.returns-in-Ok-judge_heard
returns-in-Ok-judge_heard g c = record {
  plan = λ url read. at_plan c.requires.empty read c.hear_deployment.ensures.kept c.in-Ok.ensures.told
      c.in-Ok-judge_deployment.ensures.joined (c.in-Ok-judge_deployment.ensures.judged c.args.room) c.hear_application.ensures.kept
      c.in-Ok-hear_application.ensures.told c.in-Ok-judge_heard.ensures.provided c.in-Ok-judge_heard.ensures.places
      c.in-Ok-judge_heard.ensures.targets (c.in-Ok-judge_heard.ensures.judged url);
  refused = λ url read. tt;
}
