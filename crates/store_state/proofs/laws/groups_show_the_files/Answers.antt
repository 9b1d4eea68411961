use Rattle.store_state.proofs.GroupShown.{group_shown}
use Rattle.store_state.proofs.GrownTables.{may_row}
use Rattle.store_state.proofs.laws.groups_show_the_files.Goals as goal

pub returns : goal.returns
returns c =
    λ room tables number group contents row image later store shows same holds are kept fits. group_shown
    room tables number group contents row image later store shows same holds are.rising kept
    (may_row number group tables contents row kept fits)
