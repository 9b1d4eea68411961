-- The bytes of the files that a change brings.
use Rattle.std.proofs.Common.{ℕ, List, refl}
use Rattle.small_types.specs.declared.room.Room.{Room}
use Rattle.machine.specs.Store.{Store}
use Rattle.store_state.specs.declared.change.Change.{Change}
use Rattle.store_state.specs.Change.{effect}
use Rattle.store_state.specs.Shows.{HoldsNew, SameFiles, Shows}
use Rattle.store_state.specs.Tables.{Tables}
use Rattle.install_plan.specs.LeadsIn.{HasNew, LeadsIn, NewBytes, new_bytes}

-- a change leads to a store from an image
pub leads_over : {room : Room} {change : Change} {tables : Tables} {there : List ℕ}
    {bytes : NewBytes} {new : Store}
    → ((later : List ℕ) → SameFiles room tables there later → HasNew room change bytes later
    → Shows room (effect change tables) later new)
    → LeadsIn room change tables there bytes new
leads_over shows = record { shows = shows }

-- an image has the new files with the bytes that it has for them
pub has_new : {room : Room} {change : Change} (image : List ℕ) → HoldsNew room change image
    → HasNew room change (new_bytes room change image) image
has_new image measured = record { measured = measured; are = refl }
