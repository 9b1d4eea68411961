-- There are blocks for the files of a group, where what they need was judged.
use Rattle.std.proofs.Common.{◌≡◌, ◌≢◌, ◌∙◌, ◌+◌, ◌-◌, ◌/◌, ◌^◌, ◌<◌, ◌≤◌, ℕ, false, List, [], ◌∷◌, length, map, Option, Some, refl, sym, ap, ⊎_elim, arith}
use Rattle.std.proofs.lemmas.Bool.{cases_lt}
use Rattle.std.specs.Prelude.{min, slice_get, sum_by}
use Rattle.std.proofs.lemmas.List.Sums.{sum_by-cons}
use Rattle.small_types.specs.Blocks.{count_for}
use Rattle.small_types.specs.declared.room.Room.{Room}
use Rattle.file_store.specs.Stores.{free_of}
use Rattle.file_store.specs.declared.store.FileStore.{FileStore}
use Rattle.manifests.specs.declared.facts.FileEntry.{FileEntry}
use Rattle.machine.specs.Blocks.{blocks_of, free_blocks, used_blocks}
use Rattle.machine.specs.Groups.{group_files, group_stands}
use Rattle.store_state.specs.declared.view.View.{View}
use Rattle.store_state.specs.Kept.{AreTables}
use Rattle.store_state.specs.Measured.{AreMeasured}
use Rattle.store_state.specs.Tables.{Tables, bare_row, table_shape}
use Rattle.table_files.specs.Held.{held_by}
use Rattle.table_files.specs.Laws.{HeldAreUsed}
use Rattle.install_plan.specs.declared.plan.WantedFile.{WantedFile}
use Rattle.install_plan.specs.Blocks.{UsesBlocks}
use Rattle.install_plan.specs.FetchedFiles.{blocks_needed, size_in}
use Rattle.install_plan.specs.GroupReady.{AreLacking, lacking, need_of, ungrouped}
use Rattle.install_plan.proofs.WantedPlaces.{at_places, rest_is, somes}
use Rattle.install_plan.proofs.GroupOver.{few_needed}
use Rattle.install_plan.proofs.GroupFetched.{leased_held}
use Rattle.install_plan.proofs.LeasedRows.{IsLeased}

no_first : {X : Type 0} {P : Type 0} (x : X) (xs : List X) → x ∷ xs ≡ [] → P
no_first x xs e = absurd cc

first_is : {X : Type 0} (x y : X) (xs ys : List X) → x ∷ xs ≡ y ∷ ys → x ≡ y
first_is x y xs ys e = cc

pub same_count : (n : ℕ) → count_for n ≡ blocks_of n
same_count n = ap (λ (m : ℕ). m / 4096) (omega arith)

-- the blocks of wanted files are those of what is listed at their places
pub blocks_listed : (files : List FileEntry) (wanted : List WantedFile) (entries : List FileEntry)
    → at_places files wanted ≡ somes entries
    → blocks_needed files wanted ≡ sum_by (λ (entry : FileEntry). blocks_of entry.size) entries
blocks_listed files [] [] same = refl
blocks_listed files [] (entry ∷ entries) same = no_first (Some entry) (somes entries) (sym same)
blocks_listed files (file ∷ wanted) [] same =
    no_first (slice_get files file.place) (at_places files wanted) same
blocks_listed files (file ∷ wanted) (entry ∷ entries) same =
    let place = first_is (slice_get files file.place) (Some entry) (at_places files wanted)
    (somes entries) same in
    sum_by-cons (λ (f : WantedFile). count_for (size_in (slice_get files f.place))) file wanted
    ∙ ap (λ (n : ℕ). n + blocks_needed files wanted)
    (ap (λ (o : Option FileEntry). count_for (size_in o)) place ∙ same_count entry.size)
    ∙ ap (λ (n : ℕ). blocks_of entry.size + n)
    (blocks_listed files wanted entries (rest_is (slice_get files file.place) (Some entry)
    (at_places files wanted) (somes entries) same))
    ∙ sym (sum_by-cons (λ (e : FileEntry). blocks_of e.size) entry entries)

-- those that are free are all that no file of the tables has
pub free_are : (room : Room) (tables : Tables) (store : FileStore) → HeldAreUsed → AreTables tables
    → AreMeasured tables → UsesBlocks store room (held_by tables)
    → length (free_of store) ≡ free_blocks (table_shape room tables)
free_are room tables store law are measured uses =
    let used : length (held_by tables) ≡ used_blocks (map bare_row tables.views) =
    law tables are measured in
    by (length (held_by tables)) (length (free_of store)) room.blocks
    (used_blocks (map bare_row tables.views)) used uses.all
  where
    by : (held free all used : ℕ) → held ≡ used → held + free ≡ all → free ≡ all - used
    by held free all used same whole = omega arith

module _ (room : Room) (tables : Tables) (lease : ℕ) (group : List ℕ) (view : View)
    (leased : IsLeased room tables lease view)
    (some : ◌≢◌ {A = List FileEntry} (group_files group view.application) [])
    (absent : group_stands group view.groups ≡ false) (wanted : List WantedFile)
    (lacks : AreLacking room tables view group (map ungrouped (group_files group view.application))
    wanted) (store : FileStore) (law : HeldAreUsed) (are : AreTables tables)
    (measured : AreMeasured tables) (uses : UsesBlocks store room (held_by tables)) where
  abbrev files : List FileEntry
  files = map ungrouped (group_files group view.application)

  pub room_enough : blocks_needed files wanted ≤ length (free_of store)
  room_enough =
      by (blocks_needed files wanted)
      (sum_by (λ (entry : FileEntry). blocks_of entry.size) (lacking tables files))
      (need_of tables files) (free_blocks (table_shape room tables)) (length (free_of store))
      (blocks_listed files wanted (lacking tables files) lacks.places)
      (few_needed room tables lease group view leased some absent
      (leased_held room tables lease view are leased)) refl
      (λ short. lacks.enough.0 (need_of tables files) (refl, short))
      (free_are room tables store law are measured uses)
    where
      by : (needed sum need free own : ℕ) → needed ≡ sum → sum ≤ 2 ^ 64 - 1
          → need ≡ min sum (2 ^ 64 - 1) → (free < need → ⊥) → own ≡ free → needed ≤ own
      by needed sum need free own is few most enough same =
          let kept : need ≤ free =
          ⊎_elim (λ short. absurd (enough short)) (λ less. less) (cases_lt free need) in
          omega (arith, kept)
