use Rattle.install_plan.proofs.Judged.{outside_flag}
use Rattle.install_plan.proofs.local_plans.lies_outside.Goals as goal

pub returns : goal.returns
returns c = outside_flag c.is_below_pre.result c.args.name.now c.is_below_pre.ensures
