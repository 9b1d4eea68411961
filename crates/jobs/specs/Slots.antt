-- What stands for a file that some job needs.
use Rattle.std.specs.Prelude.{◌≡◌, ℕ, ◌-◌, ◌<◌, ◌≤◌, ◌==◌, Bool, true, false, not, ◌&&◌, nat_lt, if◌then◌else◌, List, [], length, slice_index_or, Option, Some, None}
use Rattle.small_types.specs.Blocks.{count_for}
use Rattle.file_store.specs.Stores.{draft_blocks, draft_size}
use Rattle.file_store.specs.declared.draft.Draft.{Draft}
use Rattle.manifests.specs.declared.facts.FileEntry.{FileEntry}
use Rattle.machine.specs.Views.{ContentKey, content_key, same_key}
use Rattle.jobs.specs.declared.held.Held.{Held}
use Rattle.jobs.specs.declared.held.Held.TheVariants.{Nothing, Coming, Away, Whole}
use Rattle.jobs.specs.declared.held.Slot.{Slot}

-- its blocks, save those in the hands of a step
abbrev pub held_blocks : Held → List ℕ
held_blocks Nothing = []
held_blocks (Coming draft) = draft_blocks draft
held_blocks Away = []
held_blocks (Whole blocks) = blocks

-- blocks stand for it
abbrev pub has_blocks : Held → Bool
has_blocks Nothing = false
has_blocks (Coming draft) = true
has_blocks Away = true
has_blocks (Whole blocks) = true

-- its file is still to come
abbrev pub is_coming : Held → Bool
is_coming Nothing = false
is_coming (Coming draft) = true
is_coming Away = true
is_coming (Whole blocks) = false

-- its draft is in the hands of a step
abbrev pub is_away : Held → Bool
is_away Nothing = false
is_away (Coming draft) = false
is_away Away = true
is_away (Whole blocks) = false

-- its file is still to come, and nobody has its draft; or the tables have it
abbrev pub is_fresh : Held → Bool
is_fresh Nothing = true
is_fresh (Coming draft) = true
is_fresh Away = false
is_fresh (Whole blocks) = false

-- it has as many blocks as a file of this size needs
abbrev pub HasSize : ℕ → Held → Type 0
HasSize size Nothing = Unit {0}
HasSize size (Coming draft) = draft_size draft ≡ size
HasSize size Away = Unit {0}
HasSize size (Whole blocks) = length blocks ≡ count_for size

-- no slot
abbrev pub no_slot : Slot
no_slot = record {
  key = record { size = 0; list = [] };
  local = false;
  users = 0;
  held = Nothing;
}

abbrev pub slot_at : List Slot → ℕ → Slot
slot_at slots at = slice_index_or slots at no_slot

-- one user less
abbrev pub less : Slot → Slot
less slot = record slot {
  users = slot.users - 1;
  held = if slot.users == 1 then Nothing else slot.held;
}

-- what it lets go then
abbrev pub freed_by : Slot → Held
freed_by slot = if slot.users == 1 then slot.held else Nothing

-- its draft
abbrev pub draft_of : Held → Option Draft
draft_of Nothing = None
draft_of (Coming draft) = Some draft
draft_of Away = None
draft_of (Whole blocks) = None

-- what is left where its draft is taken
abbrev pub without_draft : Held → Held
without_draft Nothing = Nothing
without_draft (Coming draft) = Away
without_draft Away = Away
without_draft (Whole blocks) = Whole blocks

abbrev pub with_held : Slot → Held → Slot
with_held slot held = record slot { held = held }

abbrev pub lent : Slot → Slot
lent slot = record slot { held = without_draft slot.held }

-- the blocks of a whole file
abbrev pub whole_of : Held → Option (List ℕ)
whole_of Nothing = None
whole_of (Coming draft) = None
whole_of Away = None
whole_of (Whole blocks) = Some blocks

-- one user less, and the blocks are the tables'
abbrev pub handed : Slot → Slot
handed slot = record slot { users = slot.users - 1; held = Nothing }

-- some entry needs it
abbrev pub is_used : Slot → Bool
is_used slot = nat_lt 0 slot.users

-- it is for the program files with this content
abbrev pub is_for : ContentKey → Slot → Bool
is_for key slot = not slot.local && same_key key slot.key

-- A slot as it may stand: where nobody needs it, it has no blocks; a data file has one user, and
-- blocks; and the blocks are as many as its size needs.
pub record IsFit (slot : Slot) : Type 0 where
  pub idle : slot.users ≡ 0 → slot.held ≡ Nothing
  pub local : slot.local ≡ true → slot.users ≡ (if has_blocks slot.held then 1 else 0)
  pub size : HasSize slot.key.size slot.held

-- it is for the same file, and where some entry still needs it, it has what it had
pub record Keeps (old new : Slot) : Type 0 where
  pub key : new.key ≡ old.key
  pub local : new.local ≡ old.local
  pub users : new.users ≤ old.users
  pub held : 0 < new.users → new.held ≡ old.held

-- so it is with each slot
pub record KeepUsed (old new : List Slot) : Type 0 where
  pub count : length new ≡ length old
  pub each : (at : ℕ) → at < length old → Keeps (slot_at old at) (slot_at new at)

-- it is for the same file, and not still to come where it was not
pub record KeepsFile (old new : Slot) : Type 0 where
  pub key : new.key ≡ old.key
  pub local : new.local ≡ old.local
  pub coming : is_coming new.held ≡ true → is_coming old.held ≡ true
  pub away : is_away new.held ≡ true → is_away old.held ≡ true

-- so it is with each slot
pub record KeepFiles (old new : List Slot) : Type 0 where
  pub count : length new ≡ length old
  pub each : (at : ℕ) → at < length old → KeepsFile (slot_at old at) (slot_at new at)

-- the slot is for this file
pub record Suits (entry : FileEntry) (slot : Slot) : Type 0 where
  pub key : slot.key ≡ content_key entry
  pub local : slot.local ≡ entry.local

-- the same file, with what it had
pub record IsSame (old new : Slot) : Type 0 where
  pub key : new.key ≡ old.key
  pub local : new.local ≡ old.local
  pub held : new.held ≡ old.held

-- what entries still need has what it had
abbrev pub KeepNeeded : List Slot → List Slot → Type 0
KeepNeeded old new = (at : ℕ) → at < length old → 0 < (slot_at new at).users
    → IsSame (slot_at old at) (slot_at new at)

-- no file of a slot that was not there before counts as fetched
abbrev pub AreFresh : List Slot → List Slot → Type 0
AreFresh old new = (at : ℕ) → length old ≤ at → is_fresh (slot_at new at).held ≡ true
