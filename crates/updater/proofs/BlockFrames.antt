-- The files that tables name stay while nothing is written into their blocks.
use Rattle.std.proofs.Common.{◌≡◌, ◌∙◌, ◌≤◌, refl, sym, ap, subst, ℕ, List, [], ◌∷◌, All, Contains, drop, length, map, arith}
use Rattle.std.proofs.lemmas.List.Elements.{All-cons, All-head, All-nil, All-tail}
use Rattle.disks.specs.declared.disk.Disk.{Ghosts}
use Rattle.disks.specs.Moments.{LeavesOnly}
use Rattle.disks.proofs.MomentLemmas.{weaker}
use Rattle.small_types.specs.Blocks.{IsContent, KeepsOutside, ShareNone, blocks_start, bytes_in}
use Rattle.small_types.specs.declared.room.Room.{Room}
use Rattle.small_types.proofs.KeptBlocks.{bytes_content, content_stays, content_stays_behind, front_stays}
use Rattle.file_store.specs.Stores.{AreUsed, free_of, store_base}
use Rattle.file_store.specs.Writes.{IsOldOutsideBlocks, WritesOnly}
use Rattle.file_store.specs.declared.store.FileStore.{FileStore}
use Rattle.file_store.proofs.Apart.{apart_other}
use Rattle.journal.specs.Laws.{IsOldBefore}
use Rattle.machine.specs.Store.{Session}
use Rattle.machine.proofs.Members.{In, all_in, contains_in, in_all, in_contains, in_flat_map, in_left, in_right}
use Rattle.store_state.specs.declared.change.Change.{Change}
use Rattle.store_state.specs.declared.change.Change.TheVariants.{Group, Install, Put}
use Rattle.store_state.specs.declared.view.Content.{Content}
use Rattle.store_state.specs.declared.view.LocalFile.{LocalFile}
use Rattle.store_state.specs.declared.view.View.{View}
use Rattle.store_state.specs.Contents.{IsMeasured}
use Rattle.store_state.specs.Measured.{AreMeasured, BringsMeasured, IsMeasuredLocal}
use Rattle.store_state.specs.Shows.{HoldsNew, SameFiles, Shows}
use Rattle.store_state.specs.Stored.{HasContents, HasLocals, IsHeldFor, SameContents, SameLocals, content_bytes, data_bytes, stored_bytes}
use Rattle.store_state.specs.Tables.{Tables}
use Rattle.store_state.proofs.Images.{same_by, still_measured, still_whole}
use Rattle.store_state.proofs.ShownTables.{shows_same}
use Rattle.table_files.specs.Held.{held_by, held_for_contents, held_for_locals, held_for_views}
use Rattle.table_log.specs.Laws.{StaysAs, StaysAsFront}
use Rattle.install_plan.specs.LeadsIn.{HasNew, NewBytes, new_bytes}
use Rattle.updater.specs.Shown.{Updater}
use Rattle.updater.specs.StandsFor.{StandsFor}
use Rattle.updater.specs.Updater.{Holds, tables_of}

-- ---- what tables hold

held_of_content : (tables : Tables) (content : Content) (block : ℕ) → In content tables.contents
    → Contains content.held block → Contains (held_by tables) block
held_of_content tables content block there of =
    contains_in (held_by tables) block
    (in_left (held_for_contents tables.contents) (held_for_views tables.views) block
    (in_flat_map (λ (c : Content). c.held) tables.contents content block there
    (in_contains content.held block of)))

held_of_local : (tables : Tables) (view : View) (file : LocalFile) (block : ℕ)
    → In view tables.views → In file view.locals → Contains file.held block
    → Contains (held_by tables) block
held_of_local tables view file block kept there of =
    contains_in (held_by tables) block
    (in_right (held_for_contents tables.contents) (held_for_views tables.views) block
    (in_flat_map (λ (v : View). held_for_locals v.locals) tables.views view block kept
    (in_flat_map (λ (f : LocalFile). f.held) view.locals file block there
    (in_contains file.held block of))))

-- ---- one file

-- the bytes stay of each file that has as many blocks as it needs, and of which no byte is missing
abbrev FileStays : Room → (List ℕ → Type 0) → List ℕ → List ℕ → Type 0
FileStays room Kept before image = (held : List ℕ) (size : ℕ) → Kept held → IsHeldFor size held
    → length (stored_bytes room before held size) ≡ size
    → stored_bytes room image held size ≡ stored_bytes room before held size

module _ (room : Room) (before image : List ℕ) where
  stays_by : (held : List ℕ) (size : ℕ) → length (stored_bytes room before held size) ≡ size
      → IsContent (blocks_start room.half) held (stored_bytes room before held size) image
      → stored_bytes room image held size ≡ stored_bytes room before held size
  unfolding IsContent
  stays_by held size whole later =
      ap (λ (n : ℕ). bytes_in (blocks_start room.half) held n image) (sym whole) ∙ later

  was : (held : List ℕ) (size : ℕ) → length (stored_bytes room before held size) ≡ size
      → IsContent (blocks_start room.half) held (stored_bytes room before held size) before
  was held size whole = bytes_content (blocks_start room.half) size held before whole

  -- where other blocks are written
  outside_stays : (written : List ℕ) → KeepsOutside (blocks_start room.half) written before image
      → FileStays room (λ held. ShareNone held written) before image
  outside_stays written keeps held size none counted whole =
      stays_by held size whole (content_stays (blocks_start room.half) held
      (stored_bytes room before held size) before image (omega (arith, whole, counted))
      (was held size whole) written none keeps)

  -- where something before the blocks is
  behind_stays : drop (blocks_start room.half) image ≡ drop (blocks_start room.half) before
      → FileStays room (λ held. Unit {0}) before image
  behind_stays same held size none counted whole =
      stays_by held size whole (content_stays_behind (blocks_start room.half) held
      (stored_bytes room before held size) before image (omega (arith, whole, counted))
      (was held size whole) (blocks_start room.half) (omega arith) same)

-- ---- all files of tables, and of a change

module _ (room : Room) (before image : List ℕ) (Kept : List ℕ → Type 0)
    (stays : FileStays room Kept before image) where
  files_by : (tables : Tables) → AreMeasured tables
      → ((held : List ℕ)
      → ((block : ℕ) → Contains held block → Contains (held_by tables) block) → Kept held)
      → HasContents room before tables.contents
      → All (λ (view : View). HasLocals room before view.locals) tables.views
      → SameFiles room tables before image
  files_by tables measured kept whole locals =
      same_by room tables before image
      (λ content there. stays content.held content.size
      (kept content.held (λ block of. held_of_content tables content block there of))
      (all_in IsMeasured tables.contents content measured.contents there)
      (all_in (λ (c : Content). length (content_bytes room before c) ≡ c.size) tables.contents
      content whole there))
      (λ view in_views file there. stays file.held file.length
      (kept file.held (λ block of. held_of_local tables view file block in_views there of))
      (all_in IsMeasuredLocal view.locals file
      (all_in (λ (v : View). All IsMeasuredLocal v.locals) tables.views view measured.locals
      in_views) there)
      (all_in (λ (f : LocalFile). length (data_bytes room before f) ≡ f.length) view.locals file
      (all_in (λ (v : View). HasLocals room before v.locals) tables.views view locals in_views)
      there))

-- a map by two functions that agree on the items
map_agree : {X Y : Type 0} (f g : X → Y) (xs : List X) → All (λ x. f x ≡ g x) xs
    → map f xs ≡ map g xs
map_agree f g [] all = refl
map_agree f g (x ∷ xs) all =
    ap (λ y. y ∷ map f xs) (All-head (λ x. f x ≡ g x) x xs all)
    ∙ ap (λ ys. g x ∷ ys) (map_agree f g xs (All-tail (λ x. f x ≡ g x) x xs all))

module _ (room : Room) (before image : List ℕ)
    (same : drop (blocks_start room.half) image ≡ drop (blocks_start room.half) before) where
  -- the files of tables
  pub files_behind : (tables : Tables) → AreMeasured tables
      → HasContents room before tables.contents
      → All (λ (view : View). HasLocals room before view.locals) tables.views
      → SameFiles room tables before image
  files_behind tables measured whole locals =
      files_by room before image (λ held. Unit {0}) (behind_stays room before image same) tables
      measured (λ held of. tt) whole locals

  contents_behind : (contents : List Content) → All IsMeasured contents
      → HasContents room before contents → SameContents room before image contents
  contents_behind contents measured whole =
      in_all (λ (c : Content). content_bytes room image c ≡ content_bytes room before c) contents
      (λ content there. behind_stays room before image same content.held content.size tt
      (all_in IsMeasured contents content measured there)
      (all_in (λ (c : Content). length (content_bytes room before c) ≡ c.size) contents content
      whole there))

  locals_behind : (locals : List LocalFile) → All IsMeasuredLocal locals
      → HasLocals room before locals → SameLocals room before image locals
  locals_behind locals measured whole =
      in_all (λ (f : LocalFile). data_bytes room image f ≡ data_bytes room before f) locals
      (λ file there. behind_stays room before image same file.held file.length tt
      (all_in IsMeasuredLocal locals file measured there)
      (all_in (λ (f : LocalFile). length (data_bytes room before f) ≡ f.length) locals file whole
      there))

  contents_map : (contents : List Content) → All IsMeasured contents
      → HasContents room before contents
      → map (content_bytes room image) contents ≡ map (content_bytes room before) contents
  contents_map contents measured whole =
      map_agree (content_bytes room image) (content_bytes room before) contents
      (contents_behind contents measured whole)

  locals_map : (locals : List LocalFile) → All IsMeasuredLocal locals
      → HasLocals room before locals
      → map (data_bytes room image) locals ≡ map (data_bytes room before) locals
  locals_map locals measured whole =
      map_agree (data_bytes room image) (data_bytes room before) locals
      (locals_behind locals measured whole)

  contents_whole : (contents : List Content) → All IsMeasured contents
      → HasContents room before contents → HasContents room image contents
  contents_whole contents measured whole =
      still_whole room before image contents (contents_behind contents measured whole) whole

  locals_whole : (locals : List LocalFile) → All IsMeasuredLocal locals
      → HasLocals room before locals → HasLocals room image locals
  locals_whole locals measured whole =
      still_measured room before image locals (locals_behind locals measured whole) whole

  one_local : (file : LocalFile) → IsMeasuredLocal file → All IsMeasuredLocal (file ∷ [])
  one_local file is = All-cons IsMeasuredLocal file [] is (All-nil IsMeasuredLocal)

  -- those that a change brings
  pub new_behind : (change : Change) (bytes : NewBytes) → BringsMeasured change
      → HasNew room change bytes before → HasNew room change bytes image
  new_behind change bytes measured has =
      record { measured = holds change measured has.measured; are = are change measured has.measured ∙ has.are }
    where
      holds : (c : Change) → BringsMeasured c → HoldsNew room c before → HoldsNew room c image
      holds (Install view contents provider now) measures there = (
        contents_whole contents measures.0 there.0,
        locals_whole view.locals measures.1 there.1,
      )
      holds (Group number group contents) measures there = contents_whole contents measures there
      holds (Put number file) measures there =
          locals_whole (file ∷ []) (one_local file measures) there
      holds _ measures there = tt

      are : (c : Change) → BringsMeasured c → HoldsNew room c before
          → new_bytes room c image ≡ new_bytes room c before
      are (Install view contents provider now) measures there =
          ap (λ (bs : List (List ℕ)). record {
            contents = bs;
            locals = map (data_bytes room image) view.locals;
          }) (contents_map contents measures.0 there.0)
          ∙ ap (λ (bs : List (List ℕ)). record {
            contents = map (content_bytes room before) contents;
            locals = bs;
          }) (locals_map view.locals measures.1 there.1)
      are (Group number group contents) measures there =
          ap (λ (bs : List (List ℕ)). record { contents = bs; locals = [] })
          (contents_map contents measures there)
      are (Put number file) measures there =
          ap (λ (bs : List (List ℕ)). record { contents = []; locals = bs })
          (locals_map (file ∷ []) (one_local file measures) there)
      are _ measures there = refl

-- ---- one image after another

pub same_back : (room : Room) (tables : Tables) (a b : List ℕ) → SameFiles room tables a b
    → SameFiles room tables b a
same_back room tables a b same =
    same_by room tables b a
    (λ content there. sym (all_in (λ (c : Content). content_bytes room b c ≡ content_bytes room a c)
    tables.contents content same.contents there))
    (λ view kept file there. sym (all_in (λ (f : LocalFile). data_bytes room b f ≡ data_bytes room a f)
    view.locals file
    (all_in (λ (v : View). SameLocals room a b v.locals) tables.views view same.locals kept) there))

pub same_then : (room : Room) (tables : Tables) (a b c : List ℕ) → SameFiles room tables a b
    → SameFiles room tables b c → SameFiles room tables a c
same_then room tables a b c one two =
    same_by room tables a c
    (λ content there. all_in (λ (x : Content). content_bytes room c x ≡ content_bytes room b x)
    tables.contents content two.contents there
    ∙ all_in (λ (x : Content). content_bytes room b x ≡ content_bytes room a x) tables.contents
    content one.contents there)
    (λ view kept file there.
    all_in (λ (x : LocalFile). data_bytes room c x ≡ data_bytes room b x) view.locals file
    (all_in (λ (v : View). SameLocals room b c v.locals) tables.views view two.locals kept) there
    ∙ all_in (λ (x : LocalFile). data_bytes room b x ≡ data_bytes room a x) view.locals file
    (all_in (λ (v : View). SameLocals room a b v.locals) tables.views view one.locals kept) there)

-- ---- blocks that were free are written

module _ {D : Type 0} (on : Ghosts D) (updater : Updater) (files : FileStore) (old new : D)
    (session : Session)
    (uses : AreUsed files (held_by (tables_of updater)))
    (base : store_base files ≡ blocks_start session.store.room.half)
    (only : WritesOnly on (store_base files) (free_of files) old new)
    (law : StaysAsFront on) (holds : Holds on updater old session) where
  abbrev room : Room
  room = session.store.room

  abbrev tables : Tables
  tables = tables_of updater

  kept : (held : List ℕ)
      → ((block : ℕ) → Contains held block → Contains (held_by tables) block)
      → ShareNone held (free_of files)
  kept held within block of free =
      apart_other (held_by tables) (free_of files) block uses.apart (within block of) free

  -- an image has the same files as one from before
  same_files : (before image : List ℕ) → KeepsOutside (store_base files) (free_of files) before image
      → Shows room tables before session.store → SameFiles room tables before image
  same_files before image keeps shows =
      files_by room before image (λ held. ShareNone held (free_of files))
      (outside_stays room before image (free_of files)
      (subst (λ (b : ℕ). KeepsOutside b (free_of files) before image) base keeps))
      tables holds.measured kept shows.whole shows.measured

  image_shows : (image : List ℕ)
      → IsOldOutsideBlocks (store_base files) (free_of files) (on.left_at old (on.moment old)) image
      → Shows room tables image session.store
  image_shows image outside =
      let shows = holds.shows outside.0 outside.1 in
      shows_same image (same_files outside.0 image outside.2 shows) shows

  stays : StaysAs on updater.log room tables old new
  stays =
      law updater.log room tables old new (store_base files)
      (subst (λ (n : ℕ). n ≤ store_base files) (ap blocks_start (sym holds.log.half))
      (subst (λ (n : ℕ). blocks_start room.half ≤ n) (sym base) (omega arith)))
      (weaker on old new
      (IsOldOutsideBlocks (store_base files) (free_of files) (on.left_at old (on.moment old)))
      (IsOldBefore (store_base files) (on.left_at old (on.moment old)))
      (λ c outside. (
        outside.0,
        outside.1,
        front_stays (store_base files) (free_of files) outside.0 c outside.2,
      )) only.stops)
      holds.log

  seen_same : on.left_at old (on.moment old) (on.seen old)
      → SameFiles room tables (on.seen old) (on.seen new)
  seen_same left =
      same_files (on.seen old) (on.seen new) only.reads (holds.shows (on.seen old) left)

  -- the session is held still
  pub holds_written : on.left_at old (on.moment old) (on.seen old) → Holds on updater new session
  holds_written left = record {
    log = stays.opened;
    room = holds.room;
    shows = λ image there. image_shows image
        (only.stops.each (on.moment new) image only.stops.later (omega arith) there);
    same = λ image there.
        let outside = only.stops.each (on.moment new) image only.stops.later (omega arith) there in
        same_then room tables (on.seen new) (on.seen old) image
        (same_back room tables (on.seen old) (on.seen new) (seen_same left))
        (same_then room tables (on.seen old) outside.0 image (holds.same outside.0 outside.1)
        (same_files outside.0 image outside.2 (holds.shows outside.0 outside.1)));
    valid = holds.valid;
    jobs = holds.jobs;
    measured = holds.measured;
    placed = holds.placed;
  }

  -- and a stop leaves its store
  pub stands_written : LeavesOnly on old new (λ image. StandsFor image session.store)
  stands_written = record {
    later = only.stops.later;
    past = only.stops.past;
    each = λ t image from to there. record {
      tables = tables;
      reads = stays.each.each t image from to there;
      shows = image_shows image (only.stops.each t image from to there);
      valid = holds.valid;
      measured = holds.measured;
      placed = holds.placed;
    };
  }
