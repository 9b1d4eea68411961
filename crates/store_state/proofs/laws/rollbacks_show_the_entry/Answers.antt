use Rattle.store_state.proofs.RolledBack.{shows_rolled_back}
use Rattle.store_state.proofs.laws.rollbacks_show_the_entry.Goals as goal

pub returns : goal.returns
returns c = shows_rolled_back
