use Rattle.store_state.proofs.ShownTables.{one_shown}
use Rattle.store_state.proofs.laws.one_store_is_shown.Goals as goal

pub returns : goal.returns
returns c = one_shown
