use Rattle.store_state.proofs.ShownTables.{shows_empty}
use Rattle.store_state.proofs.laws.empty_tables_are_shown.Goals as goal

pub returns : goal.returns
returns c = shows_empty
