use Rattle.store_state.proofs.ShownTables.{shape_shown}
use Rattle.store_state.proofs.laws.shapes_are_shown.Goals as goal

pub returns : goal.returns
returns c = λ room tables image session none shows. shape_shown session none shows
