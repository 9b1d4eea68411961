use Rattle.table_codec.proofs.WithinChanges.{changes_within}
use Rattle.table_codec.proofs.laws.changes_are_within_weights.Goals as goal

pub returns : goal.returns
returns c = changes_within
