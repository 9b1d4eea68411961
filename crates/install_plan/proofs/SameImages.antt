-- Images of a disk in which no file of the tables was written, and what they show.
use Rattle.std.proofs.Common.{◌≡◌, ◌∙◌, refl, sym, ap, subst, ℕ, List, [], ◌∷◌, length, All, Contains, IsSome, Option, Some, None, map, inl, inr}
use Rattle.std.proofs.lemmas.List.Elements.{All-head, All-tail, Contains-append_left, Contains-append_right}
use Rattle.small_types.specs.Blocks.{KeepsOutside, ShareNone, blocks_start}
use Rattle.small_types.specs.declared.room.Room.{Room}
use Rattle.manifests.specs.declared.facts.FileEntry.{FileEntry}
use Rattle.machine.specs.Store.{Store}
use Rattle.machine.specs.Views.{DataFile, ListedFile}
use Rattle.machine.specs.Views.{View as KeptView}
use Rattle.machine.proofs.Members.{In, all_in}
use Rattle.store_state.specs.declared.view.Content.{Content}
use Rattle.store_state.specs.declared.view.LocalFile.{LocalFile}
use Rattle.store_state.specs.declared.view.View.{View}
use Rattle.store_state.specs.Contents.{IsMeasured, content_of, is_content_of}
use Rattle.store_state.specs.Measured.{AreMeasured, IsMeasuredLocal}
use Rattle.store_state.specs.Shows.{SameFiles, Shows, bytes_in, shown_data, shown_file}
use Rattle.store_state.specs.Stored.{HasLocals, SameContents, SameLocals, content_bytes, data_bytes}
use Rattle.store_state.specs.Tables.{Tables}
use Rattle.store_state.proofs.Images.{contents_stay, locals_stay, same_by, views_same}
use Rattle.table_files.specs.Held.{held_by, held_for_contents, held_for_locals, held_for_views}
use Rattle.install_plan.proofs.Copies.{blocks_among, bytes_stay}
use Rattle.install_plan.proofs.Keyed.{found}

-- ---- what is shown, where the bytes are the same

module _ (room : Room) (image later : List ℕ) where
  bytes_same : (contents : List Content) (entry : FileEntry) → SameContents room image later contents
      → (content : Option Content) → content_of contents entry ≡ content
      → bytes_in room later content ≡ bytes_in room image content
  bytes_same contents entry same None is = refl
  bytes_same contents entry same (Some content) is =
      let one = found (is_content_of entry) contents (subst (λ (o : Option Content). IsSome o) (sym is) refl) in
      all_in (λ (c : Content). content_bytes room later c ≡ content_bytes room image c) contents content
      same (subst (λ (c : Content). In c contents) (item_is one.item content (sym one.is ∙ is)) one.there)
    where
      item_is : (x y : Content) → ◌≡◌ {A = Option Content} (Some x) (Some y) → x ≡ y
      item_is x y e = cc

  pub entries_same : (contents : List Content) → SameContents room image later contents
      → (entries : List FileEntry)
      → map (shown_file room later contents) entries ≡ map (shown_file room image contents) entries
  entries_same contents same [] = refl
  entries_same contents same (entry ∷ entries) =
      ap (λ (bytes : List ℕ). record { entry = entry; bytes = bytes }
      ∷ map (shown_file room later contents) entries)
      (bytes_same contents entry same (content_of contents entry) refl)
      ∙ ap (λ (rest : List ListedFile). shown_file room image contents entry ∷ rest)
      (entries_same contents same entries)

  abbrev SameLocal : LocalFile → Type 0
  SameLocal file = data_bytes room later file ≡ data_bytes room image file

  pub locals_same : (files : List LocalFile) → SameLocals room image later files
      → map (shown_data room later) files ≡ map (shown_data room image) files
  locals_same [] same = refl
  locals_same (file ∷ files) same =
      ap (λ (bytes : List ℕ). record { name = file.name; bytes = bytes }
      ∷ map (shown_data room later) files) (All-head SameLocal file files same)
      ∙ ap (λ (rest : List DataFile). shown_data room image file ∷ rest)
      (locals_same files (All-tail SameLocal file files same))

  pub shows_there : (tables : Tables) (store : Store) → SameFiles room tables image later
      → Shows room tables image store → Shows room tables later store
  shows_there tables store same shows = record {
    is = shows.is ∙ ap (λ (vs : List KeptView). record {
      room = room;
      boot = tables.boot;
      next_view = tables.next_view;
      next_lease = tables.next_lease;
      leases = tables.leases;
      views = vs;
      apps = tables.apps;
    }) (sym (views_same room image later tables.contents same.contents tables.views same.locals));
    held = shows.held;
    whole = contents_stay room tables image later same shows.whole;
    measured = locals_stay room tables image later same shows.measured;
  }

-- ---- where none of their blocks was written

contents_among : (contents : List Content) (content : Content) (block : ℕ) → In content contents
    → Contains content.held block → Contains (held_for_contents contents) block
contents_among [] content block there listed = absurd there
contents_among (first ∷ contents) content block (inl is) listed =
    Contains-append_left first.held (held_for_contents contents) block
    (subst (λ (c : Content). Contains c.held block) (sym is) listed)
contents_among (first ∷ contents) content block (inr there) listed =
    Contains-append_right first.held (held_for_contents contents) block
    (contents_among contents content block there listed)

pub views_among : (views : List View) (view : View) (block : ℕ) → In view views
    → Contains (held_for_locals view.locals) block → Contains (held_for_views views) block
views_among [] view block there listed = absurd there
views_among (first ∷ views) view block (inl is) listed =
    Contains-append_left (held_for_locals first.locals) (held_for_views views) block
    (subst (λ (v : View). Contains (held_for_locals v.locals) block) (sym is) listed)
views_among (first ∷ views) view block (inr there) listed =
    Contains-append_right (held_for_locals first.locals) (held_for_views views) block
    (views_among views view block there listed)

-- a file of the same blocks as a content
as_local : Content → LocalFile
as_local content = record { name = []; length = content.size; held = content.held }

pub tables_stay : (room : Room) (tables : Tables) (store : Store) (written image later : List ℕ)
    → AreMeasured tables → ShareNone (held_by tables) written
    → KeepsOutside (blocks_start room.half) written image later → Shows room tables image store
    → SameFiles room tables image later
unfolding as_local
tables_stay room tables store written image later measured none keeps shows =
    same_by room tables image later
    (λ content there.
    bytes_stay (blocks_start room.half) (as_local content) written image later
    (all_in IsMeasured tables.contents content measured.contents there)
    (all_in (λ (c : Content). length (content_bytes room image c) ≡ c.size) tables.contents content
    shows.whole there)
    (λ block listed free. none block (Contains-append_left (held_for_contents tables.contents)
    (held_for_views tables.views) block
    (contents_among tables.contents content block there listed)) free) keeps)
    (λ view there file of.
    bytes_stay (blocks_start room.half) file written image later
    (all_in IsMeasuredLocal view.locals file
    (all_in (λ (v : View). All IsMeasuredLocal v.locals) tables.views view measured.locals there) of)
    (all_in (λ (f : LocalFile). length (data_bytes room image f) ≡ f.length) view.locals file
    (all_in (λ (v : View). HasLocals room image v.locals) tables.views view shows.measured there) of)
    (λ block listed free. none block (Contains-append_right (held_for_contents tables.contents)
    (held_for_views tables.views) block
    (views_among tables.views view block there
    (blocks_among view.locals file block of listed))) free) keeps)
