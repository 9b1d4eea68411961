-- What a new job needs.
use Rattle.std.specs.Prelude.{◌≡◌, ◌≢◌, ℕ, ◌+◌, ◌<◌, ◌≤◌, length, slice_index, slice_index_or, All, AllPairs, Contains, None, ◌⊎◌, Bool, true, false, not, ◌&&◌, nat_lt, if◌then◌else◌, List, [], ◌∷◌}
use Rattle.std.specs.List.{sum_by}
use Rattle.small_types.specs.Blocks.{count_for}
use Rattle.jobs.specs.Balance.{kept_as, needed_as, times}
use Rattle.jobs.specs.Slots.{IsSame, Suits, is_fresh, slot_at}
use Rattle.manifests.specs.declared.facts.FileEntry.{FileEntry}
use Rattle.machine.specs.Views.{ContentKey, content_key}
use Rattle.jobs.specs.declared.held.Held.{Held}
use Rattle.jobs.specs.declared.held.Slot.{Slot}
use Rattle.jobs.specs.Kept.{Kept}

-- no file
abbrev pub no_file : FileEntry
no_file = record { name = []; size = 0; list = []; group = None; local = false }

-- one user more
abbrev pub more : Slot → Slot
more slot = record slot { users = slot.users + 1 }

-- the tables have blocks for it
abbrev pub has_blocks_for : Kept → FileEntry → Bool
has_blocks_for tables entry = not entry.local && nat_lt 0 (kept_as (content_key entry) tables)

-- a slot that one entry needs, of a file with this key, and of this file
abbrev pub slot_with : ContentKey → Bool → Held → Slot
slot_with key local held = record { key = key; local = local; users = 1; held = held }

abbrev pub slot_for : FileEntry → Held → Slot
slot_for entry held = slot_with (content_key entry) entry.local held

-- An entry more needs the slot at this place, which is for its file. Nothing else has changed.
pub record Refers (old new : List Slot) (entry : FileEntry) (at : ℕ) : Type 0 where
  pub within : at < length new
  pub key : (slot_at new at).key ≡ content_key entry
  pub local : (slot_at new at).local ≡ entry.local
  pub users : (k : ℕ) → (slot_at new k).users ≡ (slot_at old k).users + times k (at ∷ [])
  pub longer : length old ≤ length new
  pub same : (k : ℕ) → k < length old → IsSame (slot_at old k) (slot_at new k)
  pub fresh : (k : ℕ) → length old ≤ k → is_fresh (slot_at new k).held ≡ true

-- The entries with these needs came to need their slots. Nothing else has changed.
pub record HasTaken (old new : List Slot) (needs : List ℕ) : Type 0 where
  pub users : (k : ℕ) → (slot_at new k).users ≡ (slot_at old k).users + times k needs
  pub within : All (λ at. at < length new) needs
  pub longer : length old ≤ length new
  pub same : (k : ℕ) → k < length old → IsSame (slot_at old k) (slot_at new k)
  pub fresh : (k : ℕ) → length old ≤ k → is_fresh (slot_at new k).held ≡ true

-- each of the needs is for its file
abbrev pub AllSuit : List Slot → List ℕ → List FileEntry → Type 0
AllSuit slots needs entries = (k : ℕ) (d : FileEntry) → k < length needs
    → Suits (slice_index_or entries k d) (slot_at slots (slice_index needs k))

-- these files have one content
pub record HaveOneContent (one other : FileEntry) : Type 0 where
  pub one_program : one.local ≡ false
  pub other_program : other.local ≡ false
  pub key : content_key one ≡ content_key other

-- the flags say of each file whether the tables have blocks for it
abbrev pub Tell : List Bool → Kept → List FileEntry → Type 0
Tell flags kept entries = (k : ℕ) (d : FileEntry) → k < length entries
    → slice_index_or flags k false ≡ has_blocks_for kept (slice_index_or entries k d)

-- What a release has left to fetch, by such flags: each file is left for which the tables have no
-- blocks, or, for a program file, another with its content is. None is left for which they have
-- blocks, and no two are left that have one content.
pub record IsWanted (flags : List Bool) (entries : List FileEntry) (left : List ℕ) : Type 0 where
  pub within : All (λ k. k < length entries) left
  pub each : (k : ℕ) (d : FileEntry) → k < length entries → slice_index_or flags k false ≡ false
      → (p : ℕ) × Contains left p
      × ((p ≡ k) ⊎ HaveOneContent (slice_index_or entries p d) (slice_index_or entries k d))
  pub lacking : All (λ k. slice_index_or flags k false ≡ false) left
  pub once : (d : FileEntry) → AllPairs (λ p q. (p ≢ q)
      × (HaveOneContent (slice_index_or entries p d) (slice_index_or entries q d) → ⊥)) left

-- the blocks of a file, but none of a content that a job counts
abbrev pub need_of : List Slot → FileEntry → ℕ
need_of slots entry =
    if not entry.local && nat_lt 0 (needed_as (content_key entry) slots) then 0
    else count_for entry.size

-- the blocks that a job needs which has these files left
abbrev pub need_for : List Slot → List FileEntry → List ℕ → ℕ
need_for slots entries left =
    sum_by (λ k. need_of slots (slice_index_or entries k no_file)) left
