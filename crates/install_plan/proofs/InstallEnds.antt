-- How the files of an install come: the room for them, the drafts, and what is made of them.
use Rattle.std.proofs.Common.{◌≡◌, ◌≢◌, ◌∙◌, ◌+◌, ◌++◌, ◌≤◌, refl, sym, ap, subst, ℕ, true, List, [], ◌∷◌, drop, length, map, All, AllPairs, Option, Some, arith}
use Rattle.std.specs.Prelude.{count_by, sum_by}
use Rattle.std.specs.List.Sorted.{IsPermutation}
use Rattle.std.proofs.lemmas.List.{length-append}
use Rattle.std.proofs.lemmas.Slice.Zip.{AllZip-long}
use Rattle.small_types.specs.Blocks.{count_for}
use Rattle.disks.specs.declared.disk.Disk.{Ghosts}
use Rattle.file_store.specs.Stores.{blocks_of_all, draft_size, free_of}
use Rattle.file_store.specs.declared.draft.Draft.{Draft}
use Rattle.file_store.specs.declared.store.FileStore.{FileStore}
use Rattle.manifests.specs.declared.facts.FileEntry.{FileEntry}
use Rattle.machine.specs.declared.reply.Reply.{Reply}
use Rattle.machine.specs.Wanted.{wanted}
use Rattle.links.specs.Links.{LinksState}
use Rattle.store_state.specs.declared.view.Content.{Content}
use Rattle.store_state.specs.declared.view.LocalFile.{LocalFile}
use Rattle.store_state.specs.Rows.{current_row, row_files}
use Rattle.store_state.specs.Tables.{Tables, bare_row}
use Rattle.data_migration.specs.declared.plan.LocalPlan.{LocalPlan}
use Rattle.data_migration.specs.Migration.{AreApart}
use Rattle.table_files.specs.Held.{held_for_contents, held_for_locals}
use Rattle.install_plan.specs.declared.plan.InstallPlan.{InstallPlan}
use Rattle.install_plan.specs.declared.plan.WantedFile.{WantedFile}
use Rattle.install_plan.specs.Carried.{ArePlansFor, carried_in, copied_in}
use Rattle.install_plan.specs.Changes.{HasContents, installed_of, listed_at, old_locals, plan_contents}
use Rattle.install_plan.specs.FetchedFiles.{IsFileAt}
use Rattle.install_plan.specs.InstallDrafts.{HasDrafted, HasFiles, drafted_contents, drafted_locals}
use Rattle.install_plan.specs.Parts.{IsThere, copied_locals, is_copy, made_locals}
use Rattle.install_plan.proofs.CopiedOnce.{copied_blocks, copied_bytes}
use Rattle.install_plan.proofs.InstallFiles.{two_as}
use Rattle.install_plan.proofs.Sources.{copies_counted, copies_there, taken_there}
use Rattle.install_plan.proofs.Sources.{drafted_contents as drafted_contents_are}

drop_front : {X : Type 0} (xs ys : List X) → drop (length xs) (xs ++ ys) ≡ ys
drop_front [] ys = refl
drop_front (x ∷ xs) ys = drop_front xs ys

module _ {D : Type 0} (on : Ghosts D) (tables : Tables) (plan : InstallPlan) (a c : LinksState) (files : FileStore) (drafts : List Draft) (disk done : D) (plans : List LocalPlan) (are : ArePlansFor tables plan plans)
    (has : HasDrafted on plan.application.files plan.wanted (old_locals tables plan) plans a c files drafts disk done) where
  long_fetched : length has.fetched ≡ length plan.wanted
  long_fetched =
      sym (AllZip-long (λ (draft : Draft) (content : List ℕ). draft_size draft ≡ length content) has.fetched has.gave has.sized)
      ∙ AllZip-long (IsFileAt a c plan.application.files) plan.wanted has.gave has.got.each

  copies_behind : drop (length plan.wanted) drafts ≡ has.copies
  copies_behind = ap (λ (n : ℕ). drop n drafts) (sym long_fetched) ∙ ap (drop (length has.fetched)) has.are ∙ drop_front has.fetched has.copies

  pub drafts_each : length drafts ≡ length plan.wanted + count_by is_copy plans
  drafts_each =
      let count = copies_counted (old_locals tables plan) plans (copies_there (old_locals tables plan) plan.application.files plans are.sources) in
      let copies = AllZip-long (λ (draft : Draft) (file : LocalFile). draft_size draft ≡ file.length) has.copies (copied_locals (old_locals tables plan) plans) has.long in
      omega (arith, ap length has.are, length-append has.fetched has.copies, long_fetched, count, copies)

  module _ (same : listed_at plan.application.files plan.wanted ≡ map Some (wanted (map bare_row tables.views) plan.application)) where
    pub drafts_contents : HasContents tables plan (drafted_contents plan drafts)
    drafts_contents = let each = drafts_each in drafted_contents_are tables plan same drafts (omega (arith, each))

    pub drafts_there : All (IsThere (old_locals tables plan) (drafted_locals plan drafts)) plans
    drafts_there = taken_there tables plan (drafted_contents plan drafts) drafts_contents plans are

  pub has_files : (locals : List LocalFile) (programs : List Content) (taken unused : List ℕ) (reply : Reply) → programs ≡ plan_contents plan (drafted_contents plan drafts)
      → locals ≡ made_locals (old_locals tables plan) (drafted_locals plan drafts) (drop (length plan.wanted) drafts) plans → taken ≡ blocks_of_all drafts
      → IsPermutation taken ((held_for_contents programs ++ held_for_locals locals) ++ unused) → reply ≡ installed_of tables plan → HasFiles on tables plan a c files drafts disk done locals programs taken unused reply
  has_files locals programs taken unused reply contents made all blocks replied = record {
    plans = plans;
    are = are;
    has = has;
    made = made ∙ ap (λ (ds : List Draft). made_locals (old_locals tables plan) (drafted_locals plan drafts) ds plans) copies_behind;
    contents = contents;
    all = all;
    blocks = blocks;
    replied = replied;
  }

-- the room that copies need, and what they write
module _ (tables : Tables) (plan : InstallPlan) (apart : AreApart (old_locals tables plan) plan.application.files) (plans : List LocalPlan) (are : ArePlansFor tables plan plans) where
  pub copies_room : sum_by (λ (file : LocalFile). count_for file.length) (copied_locals (old_locals tables plan) plans) ≡ copied_in (old_locals tables plan)
  copies_room = copied_blocks (old_locals tables plan) apart.old_names (row_files (current_row plan.deployment.identity.key tables)) plan.application.files plans are.planned

  pub copies_bytes : sum_by (λ (file : LocalFile). file.length) (copied_locals (old_locals tables plan) plans) ≡ carried_in (old_locals tables plan)
  copies_bytes = copied_bytes (old_locals tables plan) apart.old_names (row_files (current_row plan.deployment.identity.key tables)) plan.application.files plans are.planned

  -- so it is of the slices
  pub written : (old : List LocalFile) (slice : List LocalPlan) → old ≡ old_locals tables plan → slice ≡ plans → (fetched most : ℕ) → most ≤ fetched + sum_by (λ (file : LocalFile). file.length) (copied_locals old slice) → most ≤ fetched + carried_in (old_locals tables plan)
  written old slice old_is slice_is fetched most few =
      let same : sum_by (λ (file : LocalFile). file.length) (copied_locals old slice) ≡ sum_by (λ (file : LocalFile). file.length) (copied_locals (old_locals tables plan) plans) =
      ap (λ (o : List LocalFile). sum_by (λ (file : LocalFile). file.length) (copied_locals o slice)) old_is
      ∙ ap (λ (ps : List LocalPlan). sum_by (λ (file : LocalFile). file.length) (copied_locals (old_locals tables plan) ps)) slice_is in
      omega (arith, few, same, copies_bytes)

-- what came into drafts, by slices
pub drafted_by : {D : Type 0} (on : Ghosts D) (tables : Tables) (plan : InstallPlan) (a c : LinksState) (files : FileStore) (drafts : List Draft) (disk done : D) (plans : List LocalPlan) (old : List LocalFile) (slice : List LocalPlan) → old ≡ old_locals tables plan → slice ≡ plans
    → HasDrafted on plan.application.files plan.wanted old slice a c files drafts disk done → HasDrafted on plan.application.files plan.wanted (old_locals tables plan) plans a c files drafts disk done
drafted_by on tables plan a c files drafts disk done plans old slice old_is slice_is has =
    two_as (λ (o : List LocalFile) (ps : List LocalPlan). HasDrafted on plan.application.files plan.wanted o ps a c files drafts disk done) (old_locals tables plan) old plans slice old_is slice_is has
