use Rattle.manifests.proofs.NameLemmas.{below_is}
use Rattle.publish_plan.proofs.files.is_below_pre.Goals as goal

pub returns : goal.returns
returns c = below_is c.is_below_pre.result c.args.file.now c.is_below_pre.ensures
