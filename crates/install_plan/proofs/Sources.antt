-- What the plans of data files take is there: among the old ones, or among those that were fetched.
use Rattle.std.proofs.Common.{◌≡◌, ◌∙◌, ◌+◌, ◌++◌, ◌≤◌, refl, sym, ap, subst, ℕ, Bool, true, false, cond, List, [], ◌∷◌, length, map, All, IsSome, Option, Some, None, bytes_eq, arith}
use Rattle.std.specs.Prelude.{count_by, filter, slice_get}
use Rattle.std.proofs.lemmas.List.{length-map}
use Rattle.std.proofs.lemmas.List.Elements.{All-head, All-tail}
use Rattle.std.proofs.lemmas.List.Sums.{sum_by-cons}
use Rattle.file_store.specs.declared.draft.Draft.{Draft}
use Rattle.manifests.specs.declared.facts.FileEntry.{FileEntry}
use Rattle.machine.specs.Blocks.{standing_files}
use Rattle.machine.specs.Wanted.{wanted}
use Rattle.machine.proofs.Members.{In, all_in, in_all, in_contains, map_in}
use Rattle.machine.proofs.NamedItems.{own_name}
use Rattle.store_state.specs.declared.view.Content.{Content}
use Rattle.store_state.specs.declared.view.LocalFile.{LocalFile}
use Rattle.store_state.specs.Locals.{local_named}
use Rattle.store_state.specs.Tables.{Tables, bare_row}
use Rattle.data_migration.specs.declared.plan.LocalPlan.{LocalPlan}
use Rattle.data_migration.specs.declared.plan.LocalPlan.TheVariants.{Copy, Fresh}
use Rattle.data_migration.specs.Migration.{HasSource, deployed_files}
use Rattle.data_migration.specs.Plans.{local_names}
use Rattle.install_plan.specs.declared.plan.InstallPlan.{InstallPlan}
use Rattle.install_plan.specs.declared.plan.WantedFile.{WantedFile}
use Rattle.install_plan.specs.Carried.{ArePlansFor}
use Rattle.install_plan.specs.Changes.{HasContents, content_for, contents_for, listed_at, local_part, old_locals}
use Rattle.install_plan.specs.Parts.{IsThere, copied_locals, found_before, is_copy}
use Rattle.install_plan.proofs.WantedPlaces.{somes}
use Rattle.install_plan.proofs.Fetched.{local_wanted}
use Rattle.install_plan.proofs.Keyed.{not_true, some_found}

-- a data file of the name is found
there_named : (files : List LocalFile) (name : List ℕ) → In name (local_names files)
    → IsSome (local_named name files)
there_named files name there =
    let file = map_in (λ (f : LocalFile). f.name) files name there in
    some_found (λ (f : LocalFile). bytes_eq f.name name) files file.0 file.1
    (own_name file.0.name name file.2)

-- ---- names of those that were fetched

name_step : (b : Bool) (entry : FileEntry) (content : Content) (rest : List LocalFile)
    (names : List (List ℕ)) → local_names rest ≡ names
    → local_names (cond b (record { name = entry.name; length = content.size; held = content.held } ∷ []) [] ++ rest)
    ≡ cond b (entry.name ∷ names) names
name_step true entry content rest names more = ap (λ (ns : List (List ℕ)). entry.name ∷ ns) more
name_step false entry content rest names more = more

map_step : (b : Bool) (entry : FileEntry) (es : List FileEntry)
    → cond b (entry.name ∷ map (λ (e : FileEntry). e.name) es) (map (λ (e : FileEntry). e.name) es)
    ≡ map (λ (e : FileEntry). e.name) (cond b (entry ∷ es) es)
map_step true entry es = refl
map_step false entry es = refl

pub local_listed : (entries : List FileEntry) (contents : List Content)
    → length contents ≡ length entries → local_names (local_part (somes entries) contents)
    ≡ map (λ (e : FileEntry). e.name) (filter (λ (e : FileEntry). e.local) entries)
local_listed [] contents same = refl
local_listed (entry ∷ entries) [] same = absurd (omega (arith, same))
local_listed (entry ∷ entries) (content ∷ contents) same =
    name_step entry.local entry content (local_part (somes entries) contents)
    (map (λ (e : FileEntry). e.name) (filter (λ (e : FileEntry). e.local) entries))
    (local_listed entries contents (omega (arith, same)))
    ∙ map_step entry.local entry (filter (λ (e : FileEntry). e.local) entries)

-- ---- copies

-- what is copied is there, whatever was fetched
pub copies_there : (old : List LocalFile) (files : List FileEntry) (plans : List LocalPlan)
    → All (HasSource old files) plans → All (λ plan. is_copy plan ≡ true → IsThere old [] plan) plans
copies_there old files plans each =
    in_all (λ plan. is_copy plan ≡ true → IsThere old [] plan) plans
    (λ plan at copy. one plan copy (all_in (HasSource old files) plans plan each at))
  where
    one : (plan : LocalPlan) → is_copy plan ≡ true → HasSource old files plan → IsThere old [] plan
    one (Copy from to) copy source =
        there_named old from (in_contains (local_names old) from source.0)
    one (Fresh name) copy source = not_true copy

found_one : (o : Option LocalFile) (files : List LocalFile) → IsSome o
    → length (found_before o files) ≡ 1 + length files
found_one None files some = not_true some
found_one (Some file) files some = omega arith

-- a copy for each plan that carries one over
pub copies_counted : (old : List LocalFile) (plans : List LocalPlan)
    → All (λ plan. is_copy plan ≡ true → IsThere old [] plan) plans
    → length (copied_locals old plans) ≡ count_by is_copy plans
copies_counted old [] each = refl
copies_counted old (Fresh name ∷ plans) each =
    let rest = copies_counted old plans (All-tail (λ plan. is_copy plan ≡ true → IsThere old [] plan) (Fresh name) plans each) in
    let count : count_by is_copy (Fresh name ∷ plans) ≡ 0 + count_by is_copy plans = sum_by-cons (λ (p : LocalPlan). cond (is_copy p) 1 0) (Fresh name) plans in
    omega (arith, rest, count)
copies_counted old (Copy from to ∷ plans) each =
    let rest = copies_counted old plans (All-tail (λ plan. is_copy plan ≡ true → IsThere old [] plan) (Copy from to) plans each) in
    let count : count_by is_copy (Copy from to ∷ plans) ≡ 1 + count_by is_copy plans = sum_by-cons (λ (p : LocalPlan). cond (is_copy p) 1 0) (Copy from to) plans in
    let one = found_one (local_named from old) (copied_locals old plans) (All-head (λ plan. is_copy plan ≡ true → IsThere old [] plan) (Copy from to) plans each refl) in
    omega (arith, rest, count, one)

-- ---- those of a plan

-- of as many drafts as files, or more
pub drafted_long : (entries : List FileEntry) (drafts : List Draft) → length entries ≤ length drafts
    → length (contents_for (somes entries) drafts) ≡ length entries
drafted_long [] drafts many = refl
drafted_long (entry ∷ entries) [] many = absurd (omega (arith, many))
drafted_long (entry ∷ entries) (draft ∷ drafts) many =
    omega (arith, drafted_long entries drafts (omega (arith, many)))

module _ (tables : Tables) (plan : InstallPlan) where
  abbrev entries : List FileEntry
  entries = wanted (map bare_row tables.views) plan.application

  abbrev places : List (Option FileEntry)
  places = listed_at plan.application.files plan.wanted

  module _ (same : places ≡ map Some entries) where
    long_entries : length entries ≡ length plan.wanted
    long_entries =
        sym (length-map entries Some) ∙ sym (ap length same)
        ∙ length-map plan.wanted
        (λ (file : WantedFile). slice_get plan.application.files file.place)

    pub drafted_contents : (drafts : List Draft) → length plan.wanted ≤ length drafts
        → HasContents tables plan (contents_for places drafts)
    drafted_contents drafts many = record {
      places = same;
      each = ap (λ (os : List (Option FileEntry)). length (contents_for os drafts)) same
          ∙ drafted_long entries drafts (omega (arith, many, long_entries)) ∙ long_entries;
    }

  module _ (contents : List Content) (has : HasContents tables plan contents) where
    abbrev fetched : List LocalFile
    fetched = local_part places contents

    pub as_many : length contents ≡ length entries
    as_many = has.each ∙ sym (long_entries has.places)

    -- the data files that the release deploys are among the contents
    pub fetched_names : local_names fetched
        ≡ map (λ (e : FileEntry). e.name) (deployed_files plan.application.files)
    fetched_names =
        ap (λ (os : List (Option FileEntry)). local_names (local_part os contents)) has.places
        ∙ local_listed entries contents as_many
        ∙ ap (map (λ (e : FileEntry). e.name))
        (local_wanted plan.application.files (standing_files (map bare_row tables.views)))

    there_one : (p : LocalPlan) → HasSource (old_locals tables plan) plan.application.files p
        → IsThere (old_locals tables plan) fetched p
    there_one (Copy from to) source =
        there_named (old_locals tables plan) from
        (in_contains (local_names (old_locals tables plan)) from source.0)
    there_one (Fresh name) source =
        there_named fetched name
        (subst (λ (names : List (List ℕ)). In name names) (sym fetched_names)
        (in_contains
        (map (λ (e : FileEntry). e.name) (deployed_files plan.application.files)) name source))

    pub taken_there : (plans : List LocalPlan) → ArePlansFor tables plan plans
        → All (IsThere (old_locals tables plan) fetched) plans
    taken_there plans are =
        in_all (IsThere (old_locals tables plan) fetched) plans
        (λ p there.
        there_one p
        (all_in (HasSource (old_locals tables plan) plan.application.files) plans p are.sources there))
