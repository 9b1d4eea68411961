use Rattle.table_codec.proofs.Within.{state_within}
use Rattle.table_codec.proofs.laws.encodings_are_within_weights.Goals as goal

pub returns : goal.returns
returns c = state_within
