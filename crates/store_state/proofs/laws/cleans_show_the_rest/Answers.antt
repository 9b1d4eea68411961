use Rattle.store_state.proofs.CleanedTables.{cleans_shown}
use Rattle.store_state.proofs.laws.cleans_show_the_rest.Goals as goal

pub returns : goal.returns
returns c = cleans_shown
