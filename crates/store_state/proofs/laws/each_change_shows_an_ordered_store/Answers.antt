use Rattle.store_state.proofs.Validity.{change_ordered}
use Rattle.store_state.proofs.laws.each_change_shows_an_ordered_store.Goals as goal

pub returns : goal.returns
returns c = change_ordered
