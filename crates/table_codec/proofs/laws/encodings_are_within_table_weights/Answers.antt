use Rattle.table_codec.proofs.WithinTables.{within_tables}
use Rattle.table_codec.proofs.laws.encodings_are_within_table_weights.Goals as goal

pub returns : goal.returns
returns c = within_tables
