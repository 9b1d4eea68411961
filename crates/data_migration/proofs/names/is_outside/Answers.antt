use Rattle.std.proofs.Common.{ap, not}
use Rattle.manifests.proofs.NameLemmas.{below_is}
use Rattle.data_migration.proofs.names.is_outside.Goals as goal

pub returns : goal.returns
returns c = ap not (below_is c.is_below_pre.result c.args.name.now c.is_below_pre.ensures)
