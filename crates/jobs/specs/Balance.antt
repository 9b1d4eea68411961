-- Each block is for exactly one thing.
use Rattle.std.specs.Prelude.{◌≡◌, ℕ, ◌+◌, ◌≤◌, ◌==◌, ◌&&◌, min, nat_lt, if◌then◌else◌, List, length, count_by, All}
use Rattle.std.specs.List.{sum_by}
use Rattle.file_store.specs.Stores.{block_count, free_of}
use Rattle.file_store.specs.declared.store.FileStore.{FileStore}
use Rattle.machine.specs.Views.{ContentKey}
use Rattle.jobs.specs.Kept.{Kept}
use Rattle.jobs.specs.Slots.{held_blocks, has_blocks, is_for, is_used, IsFit}
use Rattle.jobs.specs.declared.held.Slot.{Slot}

-- how often a block stands in a list
unfoldable pub times : ℕ → List ℕ → ℕ
times block blocks = count_by (λ b. b == block) blocks

-- 1 for each number below n, and 0 from there on
unfoldable pub one_below : ℕ → ℕ → ℕ
one_below n block = if nat_lt block n then 1 else 0

-- the sum over the slots
unfoldable pub in_slots : (List ℕ → ℕ) → List Slot → ℕ
in_slots measure slots = sum_by (λ s. measure (held_blocks s.held)) slots

-- the sum over all that blocks can be for beside the tables: what jobs need, what a line has in its
-- hands, and the free ones
abbrev pub in_all : (List ℕ → ℕ) → List Slot → List ℕ → FileStore → ℕ
in_all measure slots hands store =
    in_slots measure slots + measure hands + measure (free_of store)

-- how many contents of the tables have this key
unfoldable pub kept_as : ContentKey → Kept → ℕ
kept_as key kept = if kept.has key then 1 else 0

-- how many slots that some entry needs are for this content
unfoldable pub needed_as : ContentKey → List Slot → ℕ
needed_as key slots = count_by (λ s. is_for key s && is_used s) slots

-- for how many of them blocks stand
unfoldable pub held_as : ContentKey → List Slot → ℕ
held_as key slots = count_by (λ s. (is_for key s && is_used s) && has_blocks s.held) slots

-- Each block of the store is for exactly one thing: a file of the tables, a file that jobs need,
-- whole or still to come, what a line has in its hands; or it is free. And for each content that
-- the tables or jobs count, and for no other, one list of blocks stands.
pub record Balanced (kept : Kept) (slots : List Slot) (hands : List ℕ) (store : FileStore)
    : Type 0 where
  pub blocks : (block : ℕ) → kept.standing block + in_all (times block) slots hands store
      ≡ one_below (block_count store) block
  pub count : kept.count + in_all length slots hands store ≡ block_count store
  pub content : (key : ContentKey) → kept_as key kept + held_as key slots
      ≡ min 1 (kept_as key kept + needed_as key slots)
  pub single : (key : ContentKey) → needed_as key slots ≤ 1
  pub fit : All IsFit slots

-- it is so beside some tables
abbrev pub IsBalanced : List Slot → List ℕ → FileStore → Type 0
IsBalanced slots hands store = (kept : Kept) × Balanced kept slots hands store

-- whatever the tables keep: what was balanced beside them still is
abbrev pub KeepsBalance : List Slot → List ℕ → FileStore → List Slot → List ℕ → FileStore → Type 0
KeepsBalance slots hands store later left after =
    (kept : Kept) → Balanced kept slots hands store → Balanced kept later left after
