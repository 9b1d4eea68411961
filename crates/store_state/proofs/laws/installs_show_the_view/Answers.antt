use Rattle.store_state.proofs.ShownTables.{shows_installed}
use Rattle.store_state.proofs.laws.installs_show_the_view.Goals as goal

pub returns : goal.returns
returns c = shows_installed
