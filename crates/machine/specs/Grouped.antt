-- The store once a group stands in a view.
use Rattle.std.specs.Prelude.{◌≡◌, ℕ, ◌==◌, not, List, [], ◌∷◌, ◌++◌, All, filter, map, if◌then◌else◌}
use Rattle.machine.specs.Groups.{group_files, is_in}
use Rattle.machine.specs.Sound.{IsWhole, ShareBytes, program_files_of}
use Rattle.machine.specs.Store.{Store}
use Rattle.machine.specs.Views.{ListedFile, View, standing_entries}

-- ---- the files that come

-- The files of the group, with bytes that match what is listed. Files with equal content keys have
-- equal bytes, also those that kept views have.
pub record AreOfGroup (group : List ℕ) (store : Store) (view : View) (files : List ListedFile)
    : Type 0 where
  pub listed : map (λ file. file.entry) files ≡ group_files group view.application
  pub whole : All IsWhole files
  pub shared : ShareBytes (program_files_of store ++ files)

-- They stand among those that stood, in the manifest's order, each with its bytes.
pub record StandAmong (group : List ℕ) (view : View) (files program_files : List ListedFile)
    : Type 0 where
  pub order : map (λ file. file.entry) program_files
      ≡ standing_entries (view.groups ++ group ∷ []) view.application
  pub came : filter (λ file. is_in group file.entry) program_files ≡ files
  pub stayed : filter (λ file. not (is_in group file.entry)) program_files ≡ view.program_files

-- ---- the store

-- a view with one more group, and these program files
abbrev pub with_group : List ℕ → List ListedFile → View → View
with_group group program_files view = record view {
  groups = view.groups ++ group ∷ [];
  program_files = program_files;
}

-- the views once that of the number is what f makes of it
abbrev pub with_view_at : ℕ → (View → View) → List View → List View
with_view_at number f views =
    map (λ view. if view.number == number then f view else view) views

abbrev pub grouped : ℕ → List ℕ → List ListedFile → Store → Store
grouped number group program_files old = record old {
  views = with_view_at number (with_group group program_files) old.views;
}

-- new is old once the group stands in the view
pub record Grouped (group : List ℕ) (view : View) (old new : Store) : Type 0 where
  pub files : List ListedFile
  pub fetched : AreOfGroup group old view files
  pub program_files : List ListedFile
  pub among : StandAmong group view files program_files
  pub is : new ≡ grouped view.number group program_files old
