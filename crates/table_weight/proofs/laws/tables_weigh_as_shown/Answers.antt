use Rattle.table_weight.proofs.AsRows.{shown_weight}
use Rattle.table_weight.proofs.laws.tables_weigh_as_shown.Goals as goal

pub returns : goal.returns
returns c = shown_weight
