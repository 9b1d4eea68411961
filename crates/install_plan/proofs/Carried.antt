-- The data files of the new view, beside those of the view that was current.
use Rattle.std.proofs.Common.{◌≡◌, ◌≢◌, ◌∙◌, ◌⊎◌, ◌≤◌, inl, inr, refl, sym, ap, subst, ℕ, Bool, true, false, cond, not, List, [], ◌∷◌, length, map, All, AllPairs, Option, Some, None, arith}
use Rattle.std.specs.Prelude.{count_by, filter, flat_map, option_map}
use Rattle.std.specs.List.Sorted.{IsPermutation}
use Rattle.std.specs.declared.cmp.Ordering.TheVariants.{Less}
use Rattle.std.proofs.lemmas.List.Kept.{AllPairs-filter}
use Rattle.std.proofs.lemmas.List.Sorted.{All-permutation}
use Rattle.small_types.specs.declared.room.Room.{Room}
use Rattle.small_types.specs.declared.limits.TheConstants.{LOCAL_NAME_LIMIT}
use Rattle.small_types.specs.Name.{IsBelowPre, IsName}
use Rattle.identity.specs.declared.key.Key.{Key}
use Rattle.identity.specs.Printed.{text_cmp}
use Rattle.manifests.specs.declared.facts.Application.{Application}
use Rattle.manifests.specs.declared.facts.FileEntry.{FileEntry}
use Rattle.manifests.specs.Applications.{is_below_pre}
use Rattle.manifests.specs.Facts.{IsFile}
use Rattle.machine.specs.Current.{current_view, data_of, listed_by}
use Rattle.machine.specs.Fields.{HasEntry, IsApplication}
use Rattle.machine.specs.Migrated.{Migrated, aside, is_fresh, migrated_names, moved, stays}
use Rattle.machine.specs.Sound.{IsSoundView, Sound}
use Rattle.machine.specs.Store.{Store}
use Rattle.machine.specs.Views.{DataFile, ListedFile}
use Rattle.machine.proofs.Members.{In, all_in, filter_in, in_all, in_either, in_map, map_in, pairs_map, sum_agree, sum_map}
use Rattle.machine.proofs.Names.{aside_below, aside_is_name, test_outside}
use Rattle.store_state.specs.declared.view.Content.{Content}
use Rattle.store_state.specs.declared.view.LocalFile.{LocalFile}
use Rattle.store_state.specs.declared.view.View.{View}
use Rattle.store_state.specs.Change.{IsLocal}
use Rattle.store_state.specs.Locals.{outside_locals}
use Rattle.store_state.specs.Rows.{current_row, row_files, row_locals}
use Rattle.store_state.specs.Shows.{Shows, shown_data, shown_view}
use Rattle.store_state.specs.Tables.{Tables}
use Rattle.data_migration.specs.declared.plan.LocalPlan.{LocalPlan}
use Rattle.data_migration.specs.declared.plan.LocalPlan.TheVariants.{Copy, Fresh}
use Rattle.data_migration.specs.Migration.{AreApart, deployed_files}
use Rattle.data_migration.specs.Plans.{local_names, plan_name}
use Rattle.install_plan.specs.Carried.{ArePlans, Rise}
use Rattle.install_plan.specs.Changes.{HaveMade}
use Rattle.install_plan.proofs.Currents.{current_shown}
use Rattle.install_plan.proofs.Keyed.{flat_map_in, pairs_before}
use Rattle.install_plan.proofs.Planned.{current_in, one_outside}

-- ---- their names

abbrev IsLocalName : List ℕ → Type 0
IsLocalName name = IsName name × (¬ IsBelowPre name → length name ≤ LOCAL_NAME_LIMIT)

module _ (old : List LocalFile) (old_files : List FileEntry) (a : Application) (each_old : (file : LocalFile) → In file old → IsLocal file) (is : IsApplication a) where
  abbrev names : List (List ℕ)
  names = migrated_names (local_names old) old_files a.files

  moved_name : (b s : Bool) (file : LocalFile) (name : List ℕ) → is_below_pre file.name ≡ b → IsLocal file → In name (cond b [] (cond s (file.name ∷ []) (aside file.name ∷ []))) → IsLocalName name
  moved_name true s file name below local there = absurd there
  moved_name false true file name below local (inl same) = subst IsLocalName same (local.name, local.short)
  moved_name false true file name below local (inr none) = absurd none
  moved_name false false file name below local (inl same) =
      subst IsLocalName same (aside_is_name file.name local.name (local.short (test_outside file.name below)), λ outside. absurd (outside (aside_below file.name)))
  moved_name false false file name below local (inr none) = absurd none

  name_is : (name : List ℕ) → In name names → IsLocalName name
  name_is name there = by (in_either (flat_map (moved old_files a.files) (local_names old)) (filter (is_fresh (local_names old) old_files a.files) (map (λ (e : FileEntry). e.name) (filter (λ (e : FileEntry). e.local) a.files))) name there)
    where
      by : In name (flat_map (moved old_files a.files) (local_names old)) ⊎ In name (filter (is_fresh (local_names old) old_files a.files) (map (λ (e : FileEntry). e.name) (filter (λ (e : FileEntry). e.local) a.files))) → IsLocalName name
      by (inl here) =
          let from = flat_map_in (moved old_files a.files) (local_names old) name here in
          let file = map_in (λ (f : LocalFile). f.name) old from.0 from.1 in
          moved_name (is_below_pre file.0.name) (stays old_files a.files file.0.name) file.0 name refl (each_old file.0 file.1)
          (subst (λ (n : List ℕ). In name (moved old_files a.files n)) (sym file.2) from.2)
      by (inr fresh) =
          let from = map_in (λ (e : FileEntry). e.name) (filter (λ (e : FileEntry). e.local) a.files) name (filter_in (is_fresh (local_names old) old_files a.files) (map (λ (e : FileEntry). e.name) (filter (λ (e : FileEntry). e.local) a.files)) name fresh).1 in
          let entry = filter_in (λ (e : FileEntry). e.local) a.files from.0 from.1 in
          let short = (all_in IsFile a.files from.0 is.facts.each entry.1).short entry.0 in
          subst IsLocalName from.2 ((all_in HasEntry a.files from.0 is.files entry.1).name, λ outside. short)

  pub plan_names : (plans : List LocalPlan) → IsPermutation names (map plan_name plans) → (p : LocalPlan) → In p plans → IsLocalName (plan_name p)
  plan_names plans same p there = all_in IsLocalName (map plan_name plans) (plan_name p) (All-permutation IsLocalName names (map plan_name plans) same (in_all IsLocalName names name_is)) (in_map plan_name plans p there)

-- ---- the view that was current, in the store that is shown

shown_names : (room : Room) (image : List ℕ) (files : List LocalFile) → map (λ (file : DataFile). file.name) (map (shown_data room image) files) ≡ local_names files
shown_names room image [] = refl
shown_names room image (file ∷ files) = ap (λ (ns : List (List ℕ)). file.name ∷ ns) (shown_names room image files)

pub data_shown : (room : Room) (image : List ℕ) (contents : List Content) (row : Option View) → data_of (option_map (shown_view room image contents) row) ≡ map (shown_data room image) (row_locals row)
data_shown room image contents None = refl
data_shown room image contents (Some view) = refl

pub files_shown : (room : Room) (image : List ℕ) (contents : List Content) (row : Option View) → listed_by (option_map (shown_view room image contents) row) ≡ row_files row
files_shown room image contents None = refl
files_shown room image contents (Some view) = refl

module _ (room : Room) (tables : Tables) (image : List ℕ) (store : Store) (shows : Shows room tables image store) (key : Key) where
  abbrev row : Option View
  row = current_row key tables

  data_are : data_of (current_view key store) ≡ map (shown_data room image) (row_locals row)
  data_are = ap data_of (current_shown shows key) ∙ data_shown room image tables.contents row

  files_are : listed_by (current_view key store) ≡ row_files row
  files_are = ap listed_by (current_shown shows key) ∙ files_shown room image tables.contents row

  old_apart : Sound store → (o : Option View) → row ≡ o → AllPairs (λ (f g : LocalFile). ◌≢◌ {A = List ℕ} f.name g.name) (row_locals o)
  old_apart sound None e = λ i j d lt within. absurd (omega arith)
  old_apart sound (Some view) e =
      let there = in_map (shown_view room image tables.contents) tables.views view (current_in key tables view e) in
      let is = all_in IsSoundView store.views (shown_view room image tables.contents view) sound.views (subst (λ (s : Store). In (shown_view room image tables.contents view) s.views) (sym shows.is) there) in
      pairs_before (shown_data room image) (λ (f g : DataFile). ◌≢◌ {A = List ℕ} f.name g.name) view.locals is.data_names

  module _ (a : Application) (is : IsApplication a) (sound : Sound store) where
    apart : AreApart (row_locals row) a.files
    apart = record {
      old_names = old_apart sound row refl;
      new_names = AllPairs-filter (λ (e f : FileEntry). ◌≢◌ {A = List ℕ} e.name f.name) (λ (e : FileEntry). e.local) a.files is.facts.files.differ;
      outside = in_all (λ (e : FileEntry). ¬ IsBelowPre e.name) (deployed_files a.files) (λ e there. (all_in IsFile a.files e is.facts.each (filter_in (λ (x : FileEntry). x.local) a.files e there).1).above);
    }

    -- the data files that the plans make are those of the new version
    pub migrated : (plans : List LocalPlan) → ArePlans row a.files plans → (originals : List ListedFile) → map (λ (file : ListedFile). file.entry) originals ≡ deployed_files a.files → (locals : List LocalFile)
        → HaveMade room image (row_locals row) originals plans locals
        → Migrated (data_of (current_view key store)) (listed_by (current_view key store)) a.files originals (map (shown_data room image) locals)
    migrated plans are originals deployed locals have =
        let shown = map (shown_data room image) (row_locals row) in
        subst (λ (old : List DataFile). Migrated old (listed_by (current_view key store)) a.files originals (map (shown_data room image) locals)) (sym data_are)
        (subst (λ (files : List FileEntry). Migrated shown files a.files originals (map (shown_data room image) locals)) (sym files_are)
        (subst (λ (new : List DataFile). Migrated shown (row_files row) a.files originals new) (sym have)
        (are.migrated shown originals (shown_names room image (row_locals row)) apart deployed)))
