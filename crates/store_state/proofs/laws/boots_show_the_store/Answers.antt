use Rattle.store_state.proofs.ShownTables.{shows_booted}
use Rattle.store_state.proofs.laws.boots_show_the_store.Goals as goal

pub returns : goal.returns
returns c = λ room tables boot image later store shows same. shows_booted later boot same shows
