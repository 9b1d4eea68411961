-- What a group that comes leaves of leased views.
use Rattle.std.proofs.Common.{◌≡◌, ◌∙◌, ◌&&◌, ◌++◌, refl, sym, ap, subst, ℕ, Bool, true, false, cond, not, eqb, eqb-true, List, [], ◌∷◌, map, Some, bytes_eq, arith}
use Rattle.std.specs.Prelude.{filter}
use Rattle.std.proofs.lemmas.List.Kept.{AllPairs-filter}
use Rattle.std.proofs.lemmas.Option.{same_Some}
use Rattle.std.proofs.lemmas.Slice.Eq.{bytes_eq-Decides}
use Rattle.manifests.specs.declared.facts.FileEntry.{FileEntry}
use Rattle.manifests.specs.FileLists.{NamesDiffer}
use Rattle.machine.specs.Current.{view_at}
use Rattle.machine.specs.Grouped.{StandAmong, grouped, with_group}
use Rattle.machine.specs.Groups.{is_in}
use Rattle.machine.specs.ReadRow.{file_named}
use Rattle.machine.specs.Store.{Store}
use Rattle.machine.specs.Views.{ListedFile, View, standing_entries, stands_by}
use Rattle.machine.proofs.ChangedLists.{one_of, pairs_unmap}
use Rattle.machine.proofs.FirstFound.{find_some}
use Rattle.machine.proofs.GrownViews.{grows_leaves}
use Rattle.machine.proofs.Leased.{file_in, view_in}
use Rattle.machine.proofs.LeasesKept.{KeepsFiles, KeepsLeases, keeps_by}
use Rattle.machine.proofs.Members.{In, filter_in}
use Rattle.machine.proofs.OneView.{changed_at, left_of}

-- ---- files by their names

-- where the names differ the file of a name is the only one
pub only_named : (files : List ListedFile) (entries : List FileEntry)
    → map (λ (file : ListedFile). file.entry) files ≡ entries → NamesDiffer entries
    → (name : List ℕ) (file : ListedFile) → In file files → bytes_eq file.entry.name name ≡ true
    → file_named name files ≡ Some file
only_named files entries are differ name file there is =
    let first = find_some (λ (f : ListedFile). bytes_eq f.entry.name name) files file there is in
    let known = file_in name files first.0 first.1 in
    let apart = pairs_unmap (λ (f : ListedFile). f.entry) (λ (e f : FileEntry). ¬ (e.name ≡ f.name))
    files (subst NamesDiffer (sym are) differ) in
    let same : first.0.entry.name ≡ file.entry.name =
    (bytes_eq-Decides first.0.entry.name name).0 known.1
    ∙ sym ((bytes_eq-Decides file.entry.name name).0 is) in
    first.1 ∙ ap Some (one_of (λ (f : ListedFile). f.entry.name) files apart first.0 file known.0
    there same)

-- the names of the files that stand differ where those of the release do
pub standing_differ : (groups : List (List ℕ)) (entries : List FileEntry) → NamesDiffer entries
    → NamesDiffer (filter (λ (e : FileEntry). not e.local && stands_by groups e.group) entries)
standing_differ groups entries differ =
    AllPairs-filter (λ (e f : FileEntry). ¬ (e.name ≡ f.name))
    (λ (e : FileEntry). not e.local && stands_by groups e.group) entries differ

-- ---- a view in which a group comes to stand

-- each file that stood stands with its bytes
pub keeps_files : (group : List ℕ) (view : View) (files program_files : List ListedFile)
    → StandAmong group view files program_files → NamesDiffer view.application.files
    → KeepsFiles view (with_group group program_files view)
keeps_files group view files program_files stand differ = λ name file found.
    let own = file_in name view.program_files file found in
    let kept = filter_in (λ (f : ListedFile). not (is_in group f.entry)) program_files file
    (subst (λ (fs : List ListedFile). In file fs) (sym stand.stayed) own.0) in
    only_named program_files (standing_entries (view.groups ++ group ∷ []) view.application)
    stand.order (standing_differ (view.groups ++ group ∷ []) view.application.files differ) name file
    kept.1 own.1

-- ---- the store

module _ (number : ℕ) (group : List ℕ) (program_files : List ListedFile) (old : Store) where
  abbrev change : View → View
  change view = cond (eqb view.number number) (with_group group program_files view) view

  -- the view of a number is what it was, changed
  pub grouped_at : (n : ℕ) (view : View) → view_at n old.views ≡ Some view
      → view_at n (grouped number group program_files old).views ≡ Some (change view)
  grouped_at n view is =
      changed_at number (with_group group program_files) old (grows_leaves group program_files) n view
      is

  pub grouped_keeps : (view : View) (files : List ListedFile)
      → view_at number old.views ≡ Some view → StandAmong group view files program_files
      → KeepsLeases old (grouped number group program_files old)
  grouped_keeps view files found stand =
      keeps_by old (grouped number group program_files old) (omega arith) (λ n less lives. refl)
      (λ n lease v is at. (
        change v,
        grouped_at lease.view v at,
        left_of number (with_group group program_files) old (λ (w : View). w.application) (λ w. refl) v,
        by lease.view v at (eqb v.number number) refl,
      ))
    where
      by : (n : ℕ) (v : View) → view_at n old.views ≡ Some v → (b : Bool) → eqb v.number number ≡ b
          → NamesDiffer v.application.files
          → KeepsFiles v (cond b (with_group group program_files v) v)
      by n v at false differ names = λ name file there. there
      by n v at true same names =
          let own : n ≡ number = sym (view_in n old.views v at).1 ∙ eqb-true v.number number same in
          let is : v ≡ view =
          same_Some v view (sym at ∙ ap (λ (m : ℕ). view_at m old.views) own ∙ found) in
          subst (λ (w : View). KeepsFiles w (with_group group program_files w)) (sym is)
          (keeps_files group view files program_files stand
          (subst (λ (w : View). NamesDiffer w.application.files) is names))
