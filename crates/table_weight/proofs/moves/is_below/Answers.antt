use Rattle.manifests.proofs.NameLemmas.{below_is}
use Rattle.table_weight.proofs.moves.is_below.Goals as goal

pub returns : goal.returns
returns c = below_is c.is_below_pre.result c.args.name.now c.is_below_pre.ensures
