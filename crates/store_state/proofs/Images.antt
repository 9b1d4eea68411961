-- Images of a disk that have the same bytes of the files that tables name.
use Rattle.std.proofs.Common.{◌≡◌, ◌∙◌, refl, ap, ℕ, List, [], ◌∷◌, All, Option, Some, None, length, map}
use Rattle.std.proofs.lemmas.List.Elements.{All-head, All-tail}
use Rattle.small_types.specs.declared.room.Room.{Room}
use Rattle.manifests.specs.declared.facts.FileEntry.{FileEntry}
use Rattle.machine.specs.Views.{DataFile, ListedFile, standing_entries}
use Rattle.machine.specs.Views.{View as KeptView}
use Rattle.machine.proofs.FirstFound.{find_in}
use Rattle.machine.proofs.Members.{In, all_in, in_all}
use Rattle.store_state.specs.declared.view.Content.{Content}
use Rattle.store_state.specs.declared.view.LocalFile.{LocalFile}
use Rattle.store_state.specs.declared.view.View.{View}
use Rattle.store_state.specs.Contents.{content_of, is_content_of}
use Rattle.store_state.specs.Shows.{SameFiles, bytes_in, shown_data, shown_file, shown_view}
use Rattle.store_state.specs.Stored.{HasContents, HasLocals, SameContents, SameLocals, content_bytes, data_bytes, stored_bytes}
use Rattle.store_state.specs.Tables.{Tables}

-- ---- what is shown, where the files are the same

-- An image has the same files as another one where it has the same bytes of each content and of
-- each data file.
pub same_by : (room : Room) (tables : Tables) (image later : List ℕ)
    → ((content : Content) → In content tables.contents
    → stored_bytes room later content.held content.size
    ≡ stored_bytes room image content.held content.size)
    → ((view : View) → In view tables.views → (file : LocalFile) → In file view.locals
    → stored_bytes room later file.held file.length
    ≡ stored_bytes room image file.held file.length)
    → SameFiles room tables image later
same_by room tables image later contents locals = record {
  contents =
      in_all (λ (c : Content). content_bytes room later c ≡ content_bytes room image c)
      tables.contents contents;
  locals =
      in_all (λ (view : View). SameLocals room image later view.locals) tables.views
      (λ view there. in_all
      (λ (f : LocalFile). data_bytes room later f ≡ data_bytes room image f) view.locals
      (λ file of. locals view there file of));
}

-- as it has those of itself
pub same_image : (room : Room) (tables : Tables) (image : List ℕ)
    → SameFiles room tables image image
same_image room tables image =
    same_by room tables image image (λ content there. refl) (λ view there file of. refl)

module _ (room : Room) (image later : List ℕ) where
  bytes_same : (contents : List Content) (entry : FileEntry)
      → SameContents room image later contents → (content : Option Content)
      → content_of contents entry ≡ content
      → bytes_in room later content ≡ bytes_in room image content
  bytes_same contents entry same None is = refl
  bytes_same contents entry same (Some content) is =
      all_in (λ (c : Content). content_bytes room later c ≡ content_bytes room image c) contents
      content same (find_in (is_content_of entry) contents content is).0

  entries_same : (contents : List Content) → SameContents room image later contents
      → (entries : List FileEntry)
      → map (shown_file room later contents) entries ≡ map (shown_file room image contents) entries
  entries_same contents same [] = refl
  entries_same contents same (entry ∷ entries) =
      ap (λ (bytes : List ℕ). record { entry = entry; bytes = bytes }
      ∷ map (shown_file room later contents) entries)
      (bytes_same contents entry same (content_of contents entry) refl)
      ∙ ap (λ (rest : List ListedFile). shown_file room image contents entry ∷ rest)
      (entries_same contents same entries)

  abbrev SameLocal : LocalFile → Type 0
  SameLocal other = data_bytes room later other ≡ data_bytes room image other

  abbrev OfView : View → Type 0
  OfView v = SameLocals room image later v.locals

  locals_same : (files : List LocalFile) → SameLocals room image later files
      → map (shown_data room later) files ≡ map (shown_data room image) files
  locals_same [] same = refl
  locals_same (file ∷ files) same =
      ap (λ (bytes : List ℕ). record { name = file.name; bytes = bytes }
      ∷ map (shown_data room later) files) (All-head SameLocal file files same)
      ∙ ap (λ (rest : List DataFile). shown_data room image file ∷ rest)
      (locals_same files (All-tail SameLocal file files same))

  view_same : (contents : List Content) → SameContents room image later contents → (view : View)
      → SameLocals room image later view.locals
      → shown_view room later contents view ≡ shown_view room image contents view
  view_same contents same view locals =
      ap (λ (files : List ListedFile). record (shown_view room later contents view) {
        program_files = files;
      }) (entries_same contents same (standing_entries view.groups view.application))
      ∙ ap (λ (files : List DataFile). record (shown_view room image contents view) {
        data_files = files;
      }) (locals_same view.locals locals)

  pub views_same : (contents : List Content) → SameContents room image later contents
      → (views : List View) → All (λ (view : View). SameLocals room image later view.locals) views
      → map (shown_view room later contents) views ≡ map (shown_view room image contents) views
  views_same contents same [] locals = refl
  views_same contents same (view ∷ views) locals =
      ap (λ (v : KeptView). v ∷ map (shown_view room later contents) views)
      (view_same contents same view (All-head OfView view views locals))
      ∙ ap (λ (rest : List KeptView). shown_view room image contents view ∷ rest)
      (views_same contents same views (All-tail OfView view views locals))

  -- contents stay as long as they are
  pub still_whole : (contents : List Content) → SameContents room image later contents
      → HasContents room image contents → HasContents room later contents
  still_whole contents same whole =
      in_all (λ (content : Content). length (content_bytes room later content) ≡ content.size)
      contents
      (λ content there. ap (λ (bytes : List ℕ). length bytes)
      (all_in (λ (c : Content). content_bytes room later c ≡ content_bytes room image c) contents
      content same there)
      ∙ all_in (λ (c : Content). length (content_bytes room image c) ≡ c.size) contents content
      whole there)

  -- and so do data files
  pub still_measured : (files : List LocalFile) → SameLocals room image later files
      → HasLocals room image files → HasLocals room later files
  still_measured files same measured =
      in_all (λ (file : LocalFile). length (data_bytes room later file) ≡ file.length) files
      (λ file there. ap (λ (bytes : List ℕ). length bytes)
      (all_in (λ (f : LocalFile). data_bytes room later f ≡ data_bytes room image f) files file
      same there)
      ∙ all_in (λ (f : LocalFile). length (data_bytes room image f) ≡ f.length) files file
      measured there)

-- ---- all files of tables

-- where both images have the same files, each has as many bytes of the contents as their sizes say
pub contents_stay : (room : Room) (tables : Tables) (image later : List ℕ)
    → SameFiles room tables image later → HasContents room image tables.contents
    → HasContents room later tables.contents
contents_stay room tables image later same whole =
    still_whole room image later tables.contents same.contents whole

-- and as many of the data files as their lengths say
pub locals_stay : (room : Room) (tables : Tables) (image later : List ℕ)
    → SameFiles room tables image later
    → All (λ (view : View). HasLocals room image view.locals) tables.views
    → All (λ (view : View). HasLocals room later view.locals) tables.views
locals_stay room tables image later same measured =
    in_all (λ (view : View). HasLocals room later view.locals) tables.views
    (λ view there. still_measured room image later view.locals
    (all_in (λ (v : View). SameLocals room image later v.locals) tables.views view same.locals
    there)
    (all_in (λ (v : View). HasLocals room image v.locals) tables.views view measured there))
