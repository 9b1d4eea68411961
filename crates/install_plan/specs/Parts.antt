-- Which data files a new view has, of those that were fetched and of copies of the old ones.
use Rattle.std.specs.Prelude.{◌≡◌, ℕ, List, [], ◌∷◌, ◌++◌, Option, Some, None, IsSome, count_by, length, option_and_then, slice_get, Bool, true, false}
use Rattle.std.specs.List.{AllZip}
use Rattle.std.specs.List.Sorted.{IsPermutation}
use Rattle.manifests.specs.declared.facts.FileEntry.{FileEntry}
use Rattle.store_state.specs.declared.view.LocalFile.{LocalFile}
use Rattle.store_state.specs.Locals.{local_named}
use Rattle.data_migration.specs.declared.plan.LocalPlan.{LocalPlan}
use Rattle.data_migration.specs.declared.plan.LocalPlan.TheVariants.{Copy, Fresh}
use Rattle.file_store.specs.Stores.{blocks_of_all, draft_blocks, draft_size}
use Rattle.file_store.specs.declared.draft.Draft.{Draft}
use Rattle.table_files.specs.Held.{held_for_locals}
use Rattle.install_plan.specs.declared.plan.WantedFile.{WantedFile}
use Rattle.install_plan.specs.Changes.{length_in}

-- the listed file that the content at that place was fetched for
abbrev pub entry_for : List FileEntry → List WantedFile → ℕ → Option FileEntry
entry_for files wanted place =
    option_and_then (λ file. slice_get files file.place) (slice_get wanted place)

-- ---- plans

-- the plan carries an old data file over
abbrev pub is_copy : LocalPlan → Bool
is_copy (Copy from to) = true
is_copy (Fresh name) = false

-- what a plan takes is among the old data files or among those that were fetched
abbrev pub IsThere : List LocalFile → List LocalFile → LocalPlan → Type 0
IsThere old fetched (Copy from to) = IsSome (local_named from old)
IsThere old fetched (Fresh name) = IsSome (local_named name fetched)

-- a data file that was found, before others
abbrev pub found_before : Option LocalFile → List LocalFile → List LocalFile
found_before None files = files
found_before (Some file) files = file ∷ files

-- the old data files that plans carry over, in the order of the plans
abbrev pub copied_locals : List LocalFile → List LocalPlan → List LocalFile
copied_locals old [] = []
copied_locals old (Fresh name ∷ plans) = copied_locals old plans
copied_locals old (Copy from to ∷ plans) =
    found_before (local_named from old) (copied_locals old plans)

-- a draft for each of these data files, to have as many bytes
abbrev pub AreCopies : List Draft → List LocalFile → Type 0
AreCopies copies files = AllZip (λ draft file. draft_size draft ≡ file.length) copies files

-- they stand behind the others
pub record AddCopies (drafts_old drafts_new : List Draft) (files : List LocalFile) : Type 0 where
  pub copies : List Draft
  pub added : drafts_new ≡ drafts_old ++ copies
  pub are : AreCopies copies files

-- ---- the data files that come of them

-- the data file that was fetched, where there is one
abbrev pub fresh_local : List ℕ → Option LocalFile → LocalFile
fresh_local name None = record { name = name; length = 0; held = [] }
fresh_local name (Some file) = record { name = name; length = file.length; held = file.held }

-- those that plans make: a copy is in the next draft, in their order
abbrev pub made_locals :
    List LocalFile → List LocalFile → List Draft → List LocalPlan → List LocalFile
made_locals old fetched copies [] = []
made_locals old fetched copies (Fresh name ∷ plans) =
    fresh_local name (local_named name fetched) ∷ made_locals old fetched copies plans
made_locals old fetched [] (Copy from to ∷ plans) =
    record { name = to; length = length_in (local_named from old); held = [] }
    ∷ made_locals old fetched [] plans
made_locals old fetched (draft ∷ copies) (Copy from to ∷ plans) =
    record { name = to; length = length_in (local_named from old); held = draft_blocks draft }
    ∷ made_locals old fetched copies plans

-- The blocks of those that were fetched, and of the copies, are those of the data files that are made
-- and of those that are left.
abbrev pub KeepBlocks :
    List LocalFile → List Draft → List LocalFile → List LocalFile → Type 0
KeepBlocks fetched copies locals left =
    IsPermutation (held_for_locals fetched ++ blocks_of_all copies)
    (held_for_locals locals ++ held_for_locals left)
