use Rattle.store_state.proofs.ShownTables.{shows_launched}
use Rattle.store_state.proofs.laws.launches_show_the_lease.Goals as goal

pub returns : goal.returns
returns c = shows_launched
