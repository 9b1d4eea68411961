-- What a change comes to over images of the disk.
use Rattle.std.specs.Prelude.{◌≡◌, ℕ, List, [], ◌∷◌, map}
use Rattle.small_types.specs.declared.room.Room.{Room}
use Rattle.machine.specs.Store.{Store}
use Rattle.store_state.specs.declared.change.Change.{Change}
use Rattle.store_state.specs.declared.change.Change.TheVariants.{Group, Install, Put}
use Rattle.store_state.specs.Change.{effect}
use Rattle.store_state.specs.Shows.{HoldsNew, SameFiles, Shows}
use Rattle.store_state.specs.Stored.{content_bytes, data_bytes}
use Rattle.store_state.specs.Tables.{Tables}

-- ---- the new files

-- the bytes of the files that a change brings: of its contents, and of its data files
pub record NewBytes : Type 0 where
  pub contents : List (List ℕ)
  pub locals : List (List ℕ)

-- none
abbrev pub no_bytes : NewBytes
no_bytes = record { contents = []; locals = [] }

-- those that an image has for them
abbrev pub new_bytes : Room → Change → List ℕ → NewBytes
new_bytes room (Install view contents provider now) image = record {
  contents = map (content_bytes room image) contents;
  locals = map (data_bytes room image) view.locals;
}
new_bytes room (Group number group contents) image =
    record { contents = map (content_bytes room image) contents; locals = [] }
new_bytes room (Put number file) image =
    record { contents = []; locals = data_bytes room image file ∷ [] }
new_bytes room _ image = no_bytes

-- The image has these bytes for them, of the lengths that the change says.
pub record HasNew (room : Room) (change : Change) (bytes : NewBytes) (image : List ℕ)
    : Type 0 where
  pub measured : HoldsNew room change image
  pub are : new_bytes room change image ≡ bytes

-- ---- the change

-- The tables show the old store with an image. The changed tables show the new one with each image
-- that has the same bytes for the files that the tables name, and these bytes for the new ones.
pub record LeadsIn (room : Room) (change : Change) (tables : Tables) (there : List ℕ)
    (bytes : NewBytes) (new : Store) : Type 0 where
  pub shows : (later : List ℕ) → SameFiles room tables there later
      → HasNew room change bytes later → Shows room (effect change tables) later new
