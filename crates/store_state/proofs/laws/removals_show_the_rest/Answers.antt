use Rattle.store_state.proofs.LocalsShown.{removals_shown}
use Rattle.store_state.proofs.laws.removals_show_the_rest.Goals as goal

pub returns : goal.returns
returns c = removals_shown
