-- The bytes of the files that tables name, as they stand in blocks.
use Rattle.std.proofs.Common.{◌≡◌, ◌∙◌, inr, refl, sym, ap, subst, ℕ, Bool, List, All, length, drop, take, bytes_eq, Option, Some, None}
use Rattle.small_types.specs.Blocks.{IsContent, blocks_start, bytes_in, count_for}
use Rattle.small_types.specs.declared.room.Room.{Room}
use Rattle.small_types.proofs.KeptBlocks.{bytes_content}
use Rattle.machine.specs.Store.{Store}
use Rattle.machine.proofs.FirstFound.{find_in}
use Rattle.machine.proofs.Members.{In, all_in}
use Rattle.store_state.specs.declared.view.Content.{Content}
use Rattle.store_state.specs.declared.view.LocalFile.{LocalFile}
use Rattle.store_state.specs.declared.view.View.{View}
use Rattle.store_state.specs.Contents.{IsMeasured, is_content_of}
use Rattle.store_state.specs.Locals.{local_named}
use Rattle.store_state.specs.Measured.{AreMeasured, IsMeasuredLocal}
use Rattle.store_state.specs.Rows.{leased_row}
use Rattle.store_state.specs.Shows.{Shows}
use Rattle.store_state.specs.Stored.{HasLocals, content_bytes, data_bytes}
use Rattle.store_state.specs.Tables.{Tables}
use Rattle.install_plan.proofs.LeasedRows.{row_there}
use Rattle.updater.specs.DataFiles.{IsLocalOf}
use Rattle.updater.specs.Leased.{IsLeasedFile}
use Rattle.updater.specs.PutStep.{file_of}
use Rattle.updater.proofs.LeasedData.{is_leased}

-- a content that is read stands in the tables
pub leased_in : (number : ℕ) (name : List ℕ) (tables : Tables) (content : Content)
    → IsLeasedFile number name tables content → In content tables.contents
leased_in number name tables content file =
    (find_in (is_content_of file.entry) tables.contents content file.is).0

-- and so does the view of a data file
pub row_in : (lease : ℕ) (name : List ℕ) (room : Room) (tables : Tables) (row : View)
    → leased_row lease tables ≡ Some row → In row tables.views
row_in lease name room tables row leased = row_there (is_leased lease name room tables row leased)

pub named_in_locals : (name : List ℕ) (files : List LocalFile) (file : LocalFile)
    → local_named name files ≡ Some file → In file files
named_in_locals name files file found =
    (find_in (λ (f : LocalFile). bytes_eq f.name name) files file found).0

-- ---- as many blocks as the length needs

pub content_held : (tables : Tables) (content : Content) → AreMeasured tables
    → In content tables.contents → length content.held ≡ count_for content.size
content_held tables content measured there = all_in IsMeasured tables.contents content measured.contents there

pub local_held : (tables : Tables) (view : View) (file : LocalFile) → AreMeasured tables
    → In view tables.views → In file view.locals → length file.held ≡ count_for file.length
local_held tables view file measured kept there =
    all_in IsMeasuredLocal view.locals file
    (all_in (λ (v : View). All IsMeasuredLocal v.locals) tables.views view measured.locals kept) there

-- ---- the whole bytes

module _ (room : Room) (tables : Tables) (image : List ℕ) (store : Store)
    (shows : Shows room tables image store) where
  pub content_whole : (content : Content) → In content tables.contents
      → length (content_bytes room image content) ≡ content.size
  content_whole content there =
      all_in (λ (c : Content). length (content_bytes room image c) ≡ c.size) tables.contents content
      shows.whole there

  pub local_whole : (view : View) (file : LocalFile) → In view tables.views → In file view.locals
      → length (data_bytes room image file) ≡ file.length
  local_whole view file kept there =
      all_in (λ (f : LocalFile). length (data_bytes room image f) ≡ f.length) view.locals file
      (all_in (λ (v : View). HasLocals room image v.locals) tables.views view shows.measured kept)
      there

  -- as an image has them that is the same
  module _ (base : ℕ) (seen : List ℕ) (front : base ≡ blocks_start room.half) (same : image ≡ seen) where
    at_base : (held bytes : List ℕ) → IsContent (blocks_start room.half) held bytes image
        → IsContent base held bytes seen
    at_base held bytes is =
        subst (λ (b : ℕ). IsContent b held bytes seen) (sym front)
        (subst (IsContent (blocks_start room.half) held bytes) same is)

    pub content_stands : (content : Content) → In content tables.contents
        → IsContent base content.held (content_bytes room image content) seen
    content_stands content there =
        at_base content.held (content_bytes room image content)
        (bytes_content (blocks_start room.half) content.size content.held image
        (content_whole content there))

    pub local_stands : (view : View) (file : LocalFile) → In view tables.views → In file view.locals
        → IsContent base file.held (data_bytes room image file) seen
    local_stands view file kept there =
        at_base file.held (data_bytes room image file)
        (bytes_content (blocks_start room.half) file.length file.held image
        (local_whole view file kept there))

-- ---- a file that comes

-- the bytes that stand in its blocks are those of the data file
pub data_there : (room : Room) (base : ℕ) (name bytes blocks image : List ℕ) → base ≡ blocks_start room.half
    → IsContent base blocks bytes image → data_bytes room image (file_of name (length bytes) blocks) ≡ bytes
unfolding IsContent
data_there room base name bytes blocks image front is =
    subst (λ (b : ℕ). bytes_in b blocks (length bytes) image ≡ bytes) front is
