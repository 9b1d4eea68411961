-- What passes between the tables, the jobs and the lines beside them.
use Rattle.std.specs.Prelude.{◌≡◌, ◌≢◌, ℕ, ◌⊎◌, ◌+◌, ◌<◌, ◌&&◌, true, false, slice_set, if◌then◌else◌, List, length, Contains}
use Rattle.small_types.specs.Blocks.{count_for}
use Rattle.file_store.specs.Stores.{SameRange, free_of}
use Rattle.file_store.specs.declared.store.FileStore.{FileStore}
use Rattle.machine.specs.Views.{ContentKey, same_key}
use Rattle.jobs.specs.Balance.{kept_as, needed_as, times}
use Rattle.jobs.specs.Jobs.{IsSound}
use Rattle.jobs.specs.Kept.{Kept}
use Rattle.jobs.specs.Slots.{HasSize, has_blocks, held_blocks, is_away, is_coming, slot_at, with_held}
use Rattle.jobs.specs.declared.held.Held.{Held}
use Rattle.jobs.specs.declared.held.Held.TheVariants.{Whole}
use Rattle.jobs.specs.declared.held.Slot.{Slot}
use Rattle.jobs.specs.declared.table.JobTable.{JobTable}

-- The tables lose a content, with its blocks, which are as many as its size needs.
pub record Loses (before after : Kept) (key : ContentKey) (blocks : List ℕ) : Type 0 where
  pub standing : (block : ℕ) → before.standing block ≡ after.standing block + times block blocks
  pub count : before.count ≡ after.count + length blocks
  pub has : (other : ContentKey) → kept_as other before
      ≡ kept_as other after + (if same_key other key then 1 else 0)
  pub own : length blocks ≡ count_for key.size

-- each slot has what it had, or it is for this content and has its blocks
abbrev pub KeepOrFill : ContentKey → List ℕ → List Slot → List Slot → Type 0
KeepOrFill key blocks old new = (at : ℕ) → at < length old
    → ((slot_at new at).held ≡ (slot_at old at).held)
    ⊎ (((slot_at old at).key ≡ key) × ((slot_at new at).held ≡ Whole blocks))

-- Blocks move between the tables, the hands of a line and the free ones. None is lost, and none
-- stands for two.
pub record Moves (before after : Kept) (hands left : List ℕ) (store later : FileStore)
    : Type 0 where
  pub standing : (block : ℕ)
      → after.standing block + times block left + times block (free_of later)
      ≡ before.standing block + times block hands + times block (free_of store)
  pub count : after.count + length left + length (free_of later)
      ≡ before.count + length hands + length (free_of store)
  pub range : SameRange store later

-- Where blocks move, and no content comes or goes that a job needs, what was sound still is: as
-- where a line takes blocks for its drafts or gives them up, where a data file comes or goes, and
-- where a content comes or goes that no job needs.
abbrev pub BlocksMayMove : Type 0
BlocksMayMove = (before after : Kept) (table : JobTable) (out hands left : List ℕ)
    (store later : FileStore) → Moves before after hands left store later
    → ((key : ContentKey) → (kept_as key after ≡ kept_as key before)
    ⊎ (needed_as key table.slots.items ≡ 0))
    → IsSound before table out hands store → IsSound after table out left later

-- What a content's slot has changes into this, and with it what the tables keep and what a line has
-- in its hands: no block is lost, none stands for two, and one list of blocks stands for the
-- content as before.
pub record Turned (before after : Kept) (slot : Slot) (held : Held) (hands left : List ℕ)
    : Type 0 where
  pub standing : (block : ℕ)
      → after.standing block + times block (held_blocks held) + times block left
      ≡ before.standing block + times block (held_blocks slot.held) + times block hands
  pub count : after.count + length (held_blocks held) + length left
      ≡ before.count + length (held_blocks slot.held) + length hands
  pub has : (key : ContentKey)
      → kept_as key after + (if same_key key slot.key && has_blocks held then 1 else 0)
      ≡ kept_as key before + (if same_key key slot.key && has_blocks slot.held then 1 else 0)
  pub size : HasSize slot.key.size held
  pub coming : is_coming held ≡ true → is_coming slot.held ≡ true

-- The slots that are out after a slot has changed: those of before, but for this one, and this one
-- where its draft is out now.
pub record OutBut (out later : List ℕ) (at : ℕ) (held : Held) : Type 0 where
  pub own : is_away held ≡ true → Contains later at
  pub others : (k : ℕ) → Contains out k → k ≢ at → Contains later k

-- the slot at this place is for the program files with this content, and some entry needs it
pub record IsSlotFor (key : ContentKey) (slots : List Slot) (at : ℕ) : Type 0 where
  pub within : at < length slots
  pub own : (slot_at slots at).key ≡ key
  pub local : (slot_at slots at).local ≡ false
  pub used : 0 < (slot_at slots at).users

-- Where what the slot of a content has turns into something else, and with it the tables and what a
-- line has in its hands, what was sound still is.
abbrev pub SlotsMayTurn : Type 0
SlotsMayTurn = (before after : Kept) (table new : JobTable) (out later hands left : List ℕ)
    (store : FileStore) (key : ContentKey) (at : ℕ) (held : Held)
    → IsSlotFor key table.slots.items at
    → Turned before after (slot_at table.slots.items at) held hands left
    → OutBut out later at held → new.jobs.items ≡ table.jobs.items → new.next ≡ table.next
    → new.slots.items
    ≡ slice_set table.slots.items at (with_held (slot_at table.slots.items at) held)
    → IsSound before table out hands store → IsSound after new later left store
