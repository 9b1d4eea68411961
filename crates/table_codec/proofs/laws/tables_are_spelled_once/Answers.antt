use Rattle.table_codec.proofs.Whole.{state_text_injective}
use Rattle.table_codec.proofs.laws.tables_are_spelled_once.Goals as goal

pub returns : goal.returns
returns c = state_text_injective
