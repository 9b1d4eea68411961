-- What is true of what tables hold, once they are changed.
use Rattle.std.specs.Prelude.{◌≡◌, ◌+◌, ◌<◌, ◌==◌, ◌++◌, ℕ, List, All, count_by, length, map}
use Rattle.std.specs.List.Sorted.{IsPermutation}
use Rattle.small_types.specs.Blocks.{AreApart}
use Rattle.machine.specs.Blocks.{used_blocks}
use Rattle.store_state.specs.declared.change.Change.{Change}
use Rattle.store_state.specs.Change.{Fits, effect}
use Rattle.store_state.specs.Kept.{AreTables}
use Rattle.store_state.specs.Measured.{AreMeasured}
use Rattle.store_state.specs.Tables.{Tables, bare_row}
use Rattle.table_files.specs.Freed.{brought, freed}
use Rattle.table_files.specs.Held.{held_by}

-- what is held before the change, and what it brings
abbrev pub before : Change → Tables → List ℕ
before change tables = held_by tables ++ brought change

-- what is held after it, and what it lets go
abbrev pub after : Change → Tables → List ℕ
after change tables = held_by (effect change tables) ++ freed change tables

-- how often an item stands among items
abbrev pub count_of : ℕ → List ℕ → ℕ
count_of item items = count_by (λ other. other == item) items

-- Nothing is lost and nothing comes twice: what is held before a change and what it brings are, in
-- some order, what is held after it and what it lets go. So each item stands there as often, there
-- are as many of them, items below a limit are below it still, and items that differ, also from
-- others, still do.
pub record KeepsItems (change : Change) (tables : Tables) : Type 0 where
  pub same : IsPermutation (before change tables) (after change tables)
  pub count : (item : ℕ) → count_of item (held_by (effect change tables))
      + count_of item (freed change tables)
      ≡ count_of item (held_by tables) + count_of item (brought change)
  pub long : length (held_by (effect change tables)) + length (freed change tables)
      ≡ length (held_by tables) + length (brought change)
  pub within : (limit : ℕ) → All (λ item. item < limit) (before change tables)
      → All (λ item. item < limit) (after change tables)
  pub apart : (others : List ℕ) → AreApart (before change tables ++ others)
      → AreApart (after change tables ++ others)

-- so it is with each change that fits
abbrev pub ChangesKeepItems : Type 0
ChangesKeepItems = (tables : Tables) (change : Change) → AreTables tables → Fits tables change
    → KeepsItems change tables

-- Tables hold as many blocks as their files take, where each file has as many as its length needs.
abbrev pub HeldAreUsed : Type 0
HeldAreUsed = (tables : Tables) → AreTables tables → AreMeasured tables
    → length (held_by tables) ≡ used_blocks (map bare_row tables.views)
