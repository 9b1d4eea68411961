use Rattle.publish_plan.proofs.PlaceLemmas.{deployment_path}
use Rattle.publish_plan.proofs.places.deployment_name.Goals as goal

pub returns-clause-path : goal.returns-clause-path
returns-clause-path c = λ word. deployment_path c.args.options.now c.as_str-to.ensures.name word
