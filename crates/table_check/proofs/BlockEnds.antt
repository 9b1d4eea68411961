-- A file is whole exactly where each of its blocks ends within the disk.
use Rattle.std.proofs.Common.{◌≡◌, ◌↔◌, ◌+◌, ◌-◌, ◌*◌, ◌≤◌, ℕ, zero, suc, min, List, [], ◌∷◌, All, length, get_or, take, drop, refl, sym, ap, subst, add-one, arith}
use Rattle.std.proofs.lemmas.List.{length-append, length-drop, length-take}
use Rattle.small_types.specs.Blocks.{blocks_start, bytes_in, count_for, place_of}
use Rattle.small_types.specs.declared.room.Room.{Room}
use Rattle.small_types.proofs.BlockContents.{bytes_in-cons, bytes_in-le, bytes_in-nil}
use Rattle.machine.proofs.Members.{all_in, in_all}
use Rattle.store_state.specs.declared.view.Content.{Content}
use Rattle.store_state.specs.declared.view.LocalFile.{LocalFile}
use Rattle.store_state.specs.declared.view.View.{View}
use Rattle.store_state.specs.Contents.{IsMeasured}
use Rattle.store_state.specs.Measured.{AreMeasured, IsMeasuredLocal}
use Rattle.store_state.specs.Stored.{HasContents, HasLocals, content_bytes, data_bytes}
use Rattle.store_state.specs.Tables.{Tables}
use Rattle.table_check.specs.Files.{EndsWithin, HasFiles, WholeFilesEndWithin}

module _ (start : ℕ) (image : List ℕ) where
  abbrev Whole : ℕ → List ℕ → Type 0
  Whole size blocks = length (bytes_in start blocks size image) ≡ size

  -- one block more
  long : (size block : ℕ) (blocks : List ℕ)
      → length (bytes_in start (block ∷ blocks) size image)
      ≡ min (min 4096 size) (length image - (start + 4096 * block))
      + length (bytes_in start blocks (size - 4096) image)
  long size block blocks =
      let front = take (min 4096 size) (drop (place_of start block) image) in
      let rest = bytes_in start blocks (size - 4096) image in
      omega (
        arith,
        ap length (bytes_in-cons start block blocks size image),
        length-append front rest,
        length-take (min 4096 size) (drop (place_of start block) image),
        length-drop (place_of start block) image,
      )

  fewer : (size : ℕ) (block : ℕ) (blocks : List ℕ) → length (block ∷ blocks) ≡ count_for size
      → (length blocks ≡ count_for (size - 4096)) × (1 ≤ size)
  fewer size block blocks counted = (omega (arith, counted), omega (arith, counted))

  -- the blocks behind the first
  behind : (size block : ℕ) (blocks : List ℕ)
      → EndsWithin start (length image) size (block ∷ blocks)
      → EndsWithin start (length image) (size - 4096) blocks
  behind size block blocks ends i low =
      let end = ends (i + 1) (omega arith) in
      let same : get_or (block ∷ blocks) (i + 1) 0 ≡ get_or blocks i 0 = rw add-one refl in
      omega (arith, end, same)

  pub whole_where : (size : ℕ) (blocks : List ℕ) → length blocks ≡ count_for size
      → EndsWithin start (length image) size blocks → Whole size blocks
  whole_where size [] counted ends =
      omega (arith, counted, ap length (bytes_in-nil start size image))
  whole_where size (block ∷ blocks) counted ends =
      let less = fewer size block blocks counted in
      let end = ends 0 (omega arith) in
      omega (
        arith,
        long size block blocks,
        end,
        less.1,
        whole_where (size - 4096) blocks less.0
            (behind size block blocks ends),
      )

  pub ends_where : (size : ℕ) (blocks : List ℕ) → length blocks ≡ count_for size
      → Whole size blocks → EndsWithin start (length image) size blocks
  ends_where size [] counted whole = λ i low. absurd (omega (arith, low))
  ends_where size (block ∷ blocks) counted whole =
      let less = fewer size block blocks counted in
      let parts = long size block blocks in
      let most = bytes_in-le start blocks (size - 4096) image in
      at (omega (arith, parts, most, whole, less.1))
      (ends_where (size - 4096) blocks less.0 (omega (arith, parts, most, whole, less.1)))
    where
      at : start + 4096 * block + min 4096 size ≤ length image
          → EndsWithin start (length image) (size - 4096) blocks
          → EndsWithin start (length image) size (block ∷ blocks)
      at first others zero low = omega (arith, first)
      at first others (suc i) low =
          let end = others i (omega arith) in
          omega (arith, end)

pub exactly_within : WholeFilesEndWithin
exactly_within start size blocks image counted = (
  whole_where start image size blocks counted,
  ends_where start image size blocks counted,
)

-- ---- the files of tables

module _ (room : Room) (image : List ℕ) (tables : Tables) (are : AreMeasured tables) where
  abbrev start : ℕ
  start = blocks_start room.half

  abbrev ContentEnds : Content → Type 0
  ContentEnds content = EndsWithin start (length image) content.size content.held

  abbrev LocalEnds : LocalFile → Type 0
  LocalEnds file = EndsWithin start (length image) file.length file.held

  abbrev ViewEnds : View → Type 0
  ViewEnds view = All LocalEnds view.locals

  abbrev HasContent : Content → Type 0
  HasContent content = length (content_bytes room image content) ≡ content.size

  abbrev HasLocal : LocalFile → Type 0
  HasLocal file = length (data_bytes room image file) ≡ file.length

  abbrev HasView : View → Type 0
  HasView view = HasLocals room image view.locals

  pub contents_where : All ContentEnds tables.contents → HasContents room image tables.contents
  contents_where ends =
      in_all HasContent tables.contents
      (λ content there. whole_where start image content.size content.held
      (all_in IsMeasured tables.contents content are.contents there)
      (all_in ContentEnds tables.contents content ends there))

  pub contents_end : HasContents room image tables.contents → All ContentEnds tables.contents
  contents_end has =
      in_all ContentEnds tables.contents
      (λ content there. ends_where start image content.size content.held
      (all_in IsMeasured tables.contents content are.contents there)
      (all_in HasContent tables.contents content has there))

  pub views_where : All ViewEnds tables.views → All HasView tables.views
  views_where ends =
      in_all HasView tables.views
      (λ view there. in_all HasLocal view.locals
      (λ file kept. whole_where start image file.length file.held
      (all_in IsMeasuredLocal view.locals file
      (all_in (λ (v : View). All IsMeasuredLocal v.locals) tables.views view are.locals there) kept)
      (all_in LocalEnds view.locals file (all_in ViewEnds tables.views view ends there) kept)))

  pub views_end : All HasView tables.views → All ViewEnds tables.views
  views_end has =
      in_all ViewEnds tables.views
      (λ view there. in_all LocalEnds view.locals
      (λ file kept. ends_where start image file.length file.held
      (all_in IsMeasuredLocal view.locals file
      (all_in (λ (v : View). All IsMeasuredLocal v.locals) tables.views view are.locals there) kept)
      (all_in HasLocal view.locals file (all_in HasView tables.views view has there) kept)))

  abbrev AllEnd : ℕ → ℕ → Type 0
  AllEnd begin end =
      All (λ (content : Content). EndsWithin begin end content.size content.held) tables.contents
      × All (λ (view : View). All
      (λ (file : LocalFile). EndsWithin begin end file.length file.held) view.locals) tables.views

  pub files_where : (begin end : ℕ) → begin ≡ start → length image ≡ end
      → AllEnd begin end ↔ HasFiles room image tables
  files_where begin end begins long =
      subst (λ (n : ℕ). AllEnd n end ↔ HasFiles room image tables) (sym begins)
      (subst (λ (n : ℕ). AllEnd start n ↔ HasFiles room image tables) long (
        λ ends. (contents_where ends.0, views_where ends.1),
        λ has. (contents_end has.0, views_end has.1),
      ))
