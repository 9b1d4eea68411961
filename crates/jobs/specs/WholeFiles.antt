-- The bytes of whole files.
use Rattle.std.specs.Prelude.{◌≡◌, ℕ, ◌<◌, List, length, slice_set, All}
use Rattle.small_types.specs.Blocks.{IsContent}
use Rattle.digest_list.specs.Matches.{Matches}
use Rattle.machine.specs.Views.{ContentKey}
use Rattle.jobs.specs.Slots.{AreFresh, IsFit, KeepNeeded, slot_at, with_held}
use Rattle.jobs.specs.declared.held.Held.{Held}
use Rattle.jobs.specs.declared.held.Held.TheVariants.{Whole}
use Rattle.jobs.specs.declared.held.Slot.{Slot}

-- the image has in these blocks bytes that match the key
abbrev pub HasFile : ℕ → List ℕ → ContentKey → List ℕ → Type 0
HasFile base image key blocks = (bytes : List ℕ) × IsContent base blocks bytes image
    × Matches key.list key.size bytes

-- it has those of each whole file of these slots
abbrev pub HasWhole : ℕ → List ℕ → List Slot → Type 0
HasWhole base image slots = (at : ℕ) (blocks : List ℕ) → at < length slots
    → (slot_at slots at).held ≡ Whole blocks → HasFile base image (slot_at slots at).key blocks

-- Where slots that entries still need have what they had, and no file of a new one counts as
-- fetched, an image has the bytes of each whole file as before: as where a job is opened, given up,
-- or becomes an installed one.
abbrev pub WholeFilesStay : Type 0
WholeFilesStay = (base : ℕ) (image : List ℕ) (old new : List Slot) → HasWhole base image old
    → KeepNeeded old new → AreFresh old new → All IsFit new → HasWhole base image new

-- So it has where one slot changes, if it has the bytes of a file that then is whole there.
abbrev pub WholeFilesCome : Type 0
WholeFilesCome = (base : ℕ) (image : List ℕ) (old : List Slot) (at : ℕ) (held : Held)
    → at < length old → HasWhole base image old
    → ((blocks : List ℕ) → held ≡ Whole blocks
    → HasFile base image (slot_at old at).key blocks)
    → HasWhole base image (slice_set old at (with_held (slot_at old at) held))
