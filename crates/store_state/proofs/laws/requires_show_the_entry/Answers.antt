use Rattle.store_state.proofs.ShownTables.{shows_required}
use Rattle.store_state.proofs.laws.requires_show_the_entry.Goals as goal

pub returns : goal.returns
returns c = λ room tables key version image later store shows same. shows_required later key version same shows
