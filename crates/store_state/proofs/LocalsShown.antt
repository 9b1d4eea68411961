-- The data files that tables show, and what they show once those of one view are others.
use Rattle.std.proofs.Common.{◌≡◌, ◌∙◌, refl, sym, ap, ℕ, Bool, true, false, cond, not, List, [], ◌∷◌, length, map, All, Option, Some, None, bytes_eq, eqb}
use Rattle.std.specs.Prelude.{is_some, option_and_then, option_map}
use Rattle.std.proofs.lemmas.List.Elements.{All-head}
use Rattle.small_types.specs.declared.room.Room.{Room}
use Rattle.machine.specs.Current.{bare_view_at, view_at}
use Rattle.machine.specs.DataFiles.{bare_data_named, data_name, data_named, put_in, removed_in, with_named, without_named}
use Rattle.machine.specs.Grouped.{with_view_at}
use Rattle.machine.specs.Shape.{BareData, BareView}
use Rattle.machine.specs.Store.{Store}
use Rattle.machine.specs.Views.{DataFile}
use Rattle.machine.specs.Views.{View as KeptView}
use Rattle.machine.proofs.FirstFound.{find-map}
use Rattle.machine.proofs.Members.{filter_map_is}
use Rattle.store_state.specs.declared.change.Change.TheVariants.{Put, Remove}
use Rattle.store_state.specs.declared.view.Content.{Content}
use Rattle.store_state.specs.declared.view.LocalFile.{LocalFile}
use Rattle.store_state.specs.declared.view.View.{View}
use Rattle.store_state.specs.Change.{effect}
use Rattle.store_state.specs.Locals.{local_at, local_name, local_named}
use Rattle.store_state.specs.Rows.{row_at}
use Rattle.store_state.specs.Shows.{HoldsNew, SameFiles, Shows, shown_data, shown_store, shown_view}
use Rattle.store_state.specs.Stored.{data_bytes}
use Rattle.store_state.specs.Tables.{Tables, bare_local, bare_row, table_shape}
use Rattle.store_state.proofs.ByNumber.{change}
use Rattle.store_state.proofs.Current.{bare_at}
use Rattle.store_state.proofs.Edited.{all_edited, edit, edited}
use Rattle.store_state.proofs.GrownTables.{of_view}
use Rattle.store_state.proofs.PutItems.{all_left, all_with, named_shown}
use Rattle.store_state.proofs.ShownTables.{HasMeasured, IsHeld, shows_same}
use Rattle.store_state.proofs.ShownFiles.{mapped_some, row_shown}

-- ---- once those of one view are others

abbrev IsMeasured : Room → List ℕ → LocalFile → Type 0
IsMeasured room image file = length (data_bytes room image file) ≡ file.length

module _ (room : Room) (image : List ℕ) (number : ℕ) (h : List LocalFile → List LocalFile)
    (k : List DataFile → List DataFile)
    (agree : (files : List LocalFile) → k (map (shown_data room image) files) ≡ map (shown_data room image) (h files)) where
  abbrev pub kept_with : KeptView → KeptView
  kept_with view = record view { data_files = k view.data_files }

  one_shown : (contents : List Content) (b : Bool) (view : View)
      → cond b (kept_with (shown_view room image contents view)) (shown_view room image contents view)
      ≡ shown_view room image contents (cond b (edit number h view) view)
  one_shown contents true view =
      ap (λ (files : List DataFile). record (shown_view room image contents view) { data_files = files })
      (agree view.locals)
  one_shown contents false view = refl

  views_shown : (contents : List Content) (views : List View)
      → with_view_at number kept_with (map (shown_view room image contents) views)
      ≡ map (shown_view room image contents) (edited number h views)
  views_shown contents [] = refl
  views_shown contents (view ∷ views) =
      ap (λ (w : KeptView). w ∷ with_view_at number kept_with (map (shown_view room image contents) views))
      (one_shown contents (eqb view.number number) view)
      ∙ ap (λ (ws : List KeptView). shown_view room image contents
      (change of_view number (edit number h) view) ∷ ws) (views_shown contents views)

  pub shows_edited : (tables : Tables) (store : Store) → Shows room tables image store
      → ((files : List LocalFile) → All (IsMeasured room image) files
      → All (IsMeasured room image) (h files))
      → Shows room (record tables { views = edited number h tables.views }) image
      (record store { views = with_view_at number kept_with store.views })
  shows_edited tables store shows keeps = record {
    is =
        ap (λ (s : Store). record s { views = with_view_at number kept_with s.views }) shows.is
        ∙ ap (λ (views : List KeptView). record (shown_store room image tables) { views = views })
        (views_shown tables.contents tables.views);
    held = all_edited number h (IsHeld tables.contents) (λ v held. held) tables.views shows.held;
    whole = shows.whole;
    measured =
        all_edited number h (HasMeasured room image) (λ v are. keeps v.locals are) tables.views shows.measured;
  }

pub put_agrees : (room : Room) (image : List ℕ) (file : LocalFile) (files : List LocalFile)
    → with_named data_name (shown_data room image file) (map (shown_data room image) files)
    ≡ map (shown_data room image) (with_named local_name file files)
put_agrees room image file files =
    named_shown data_name (shown_data room image) file files

pub left_agrees : (room : Room) (image name : List ℕ) (files : List LocalFile)
    → without_named data_name name (map (shown_data room image) files)
    ≡ map (shown_data room image) (without_named local_name name files)
left_agrees room image name files =
    filter_map_is (shown_data room image) (λ (file : DataFile). not (bytes_eq file.name name)) files

pub puts_shown : (room : Room) (tables : Tables) (number : ℕ) (file : LocalFile)
    (image later : List ℕ) (store : Store) → Shows room tables image store
    → SameFiles room tables image later → HoldsNew room (Put number file) later
    → Shows room (effect (Put number file) tables) later
    (put_in number (shown_data room later file) store)
puts_shown room tables number file image later store shows same holds =
    shows_edited room later number (with_named local_name file)
    (with_named data_name (shown_data room later file)) (put_agrees room later file) tables store
    (shows_same later same shows)
    (λ files are. all_with local_name (IsMeasured room later) file files
    (All-head (IsMeasured room later) file [] holds) are)

pub removals_shown : (room : Room) (tables : Tables) (number : ℕ) (name : List ℕ)
    (image later : List ℕ) (store : Store) → Shows room tables image store
    → SameFiles room tables image later
    → Shows room (effect (Remove number name) tables) later (removed_in number name store)
removals_shown room tables number name image later store shows same =
    shows_edited room later number (without_named local_name name) (without_named data_name name)
    (left_agrees room later name) tables store (shows_same later same shows)
    (λ files are. all_left (λ (f : LocalFile). not (bytes_eq f.name name)) (IsMeasured room later)
    files are)

-- ---- data files that are found

found_shown : (room : Room) (image name : List ℕ) (contents : List Content) (row : Option View)
    → option_map (shown_data room image) (option_and_then (λ (view : View). local_named name view.locals) row)
    ≡ option_and_then (λ (view : KeptView). data_named name view.data_files)
    (option_map (shown_view room image contents) row)
found_shown room image name contents None = refl
found_shown room image name contents (Some view) =
    sym (find-map (shown_data room image) (λ (file : DataFile). bytes_eq file.name name) view.locals)

pub locals_shown : (room : Room) (tables : Tables) (number : ℕ) (name image : List ℕ)
    (store : Store) → Shows room tables image store
    → option_map (shown_data room image) (local_at number name tables)
    ≡ option_and_then (λ (view : KeptView). data_named name view.data_files)
    (view_at number store.views)
locals_shown room tables number name image store shows =
    found_shown room image name tables.contents (row_at number tables.views)
    ∙ ap (λ (o : Option KeptView). option_and_then
    (λ (view : KeptView). data_named name view.data_files) o)
    (sym (row_shown room image number tables.contents tables.views))
    ∙ ap (λ (s : Store). option_and_then
    (λ (view : KeptView). data_named name view.data_files) (view_at number s.views))
    (sym shows.is)

bare_found : (name : List ℕ) (row : Option View)
    → is_some (option_and_then (λ (view : View). local_named name view.locals) row)
    ≡ is_some (option_and_then (λ (view : BareView). bare_data_named name view.data_files)
    (option_map bare_row row))
bare_found name None = refl
bare_found name (Some view) =
    sym (mapped_some bare_local (local_named name view.locals))
    ∙ ap is_some (sym (find-map bare_local (λ (file : BareData). bytes_eq file.name name)
    view.locals))

pub local_names_shown : (room : Room) (tables : Tables) (number : ℕ) (name : List ℕ)
    → is_some (local_at number name tables)
    ≡ is_some (option_and_then (λ (view : BareView). bare_data_named name view.data_files)
    (bare_view_at number (table_shape room tables).views))
local_names_shown room tables number name =
    bare_found name (row_at number tables.views)
    ∙ ap (λ (o : Option BareView). is_some (option_and_then
    (λ (view : BareView). bare_data_named name view.data_files) o)) (bare_at number tables.views)
