use Rattle.store_state.proofs.ShownTables.{shows_finished}
use Rattle.store_state.proofs.laws.finishes_show_the_rest.Goals as goal

pub returns : goal.returns
returns c = λ room tables lease image later store shows same. shows_finished later lease same shows
