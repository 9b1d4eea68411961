use Rattle.table_weight.proofs.KeptTables.{kept_tables}
use Rattle.table_weight.proofs.laws.changes_keep_tables.Goals as goal

pub returns : goal.returns
returns c = kept_tables
