-- Tables hold as many blocks as their files take.
use Rattle.std.proofs.Common.{◌≡◌, ℕ, List, [], ◌∷◌, All, length, map, arith}
use Rattle.std.specs.Prelude.{flat_map, sum_by}
use Rattle.std.proofs.lemmas.List.{length-append}
use Rattle.std.proofs.lemmas.List.Elements.{All-head, All-tail}
use Rattle.std.proofs.lemmas.List.Sums.{sum_by-append, sum_by-cons}
use Rattle.small_types.specs.Blocks.{count_for}
use Rattle.machine.specs.Blocks.{blocks_of, standing_files}
use Rattle.machine.specs.Shape.{BareData, BareView}
use Rattle.machine.proofs.Members.{sum_map}
use Rattle.store_state.specs.declared.view.Content.{Content}
use Rattle.store_state.specs.declared.view.LocalFile.{LocalFile}
use Rattle.store_state.specs.declared.view.View.{View}
use Rattle.store_state.specs.Contents.{IsMeasured}
use Rattle.store_state.specs.Measured.{IsMeasuredLocal}
use Rattle.store_state.specs.Tables.{bare_local, bare_row}
use Rattle.store_state.proofs.Keyed.{blocks_by}
use Rattle.table_files.specs.Held.{held_for_contents, held_for_locals, held_for_views}
use Rattle.table_files.specs.Laws.{HeldAreUsed}

-- both count the same blocks
same_count : (bytes : ℕ) → count_for bytes ≡ blocks_of bytes
same_count bytes = omega arith

abbrev content_blocks : Content → ℕ
content_blocks content = blocks_of content.size

abbrev local_blocks : LocalFile → ℕ
local_blocks file = blocks_of file.length

abbrev bare_blocks : BareData → ℕ
bare_blocks file = blocks_of file.length

contents_count : (contents : List Content) → All IsMeasured contents
    → length (held_for_contents contents) ≡ sum_by content_blocks contents
contents_count [] are = omega arith
contents_count (content ∷ contents) are = omega (
  arith,
  length-append content.held (held_for_contents contents),
  All-head IsMeasured content contents are,
  same_count content.size,
  contents_count contents (All-tail IsMeasured content contents are),
  sum_by-cons content_blocks content contents,
)

locals_count : (files : List LocalFile) → All IsMeasuredLocal files
    → length (held_for_locals files) ≡ sum_by local_blocks files
locals_count [] are = omega arith
locals_count (file ∷ files) are = omega (
  arith,
  length-append file.held (held_for_locals files),
  All-head IsMeasuredLocal file files are,
  same_count file.length,
  locals_count files (All-tail IsMeasuredLocal file files are),
  sum_by-cons local_blocks file files,
)

abbrev AllMeasured : View → Type 0
AllMeasured view = All IsMeasuredLocal view.locals

abbrev bare_files : List View → List BareData
bare_files views = flat_map (λ (view : BareView). view.data_files) (map bare_row views)

views_count : (views : List View) → All AllMeasured views
    → length (held_for_views views) ≡ sum_by bare_blocks (bare_files views)
views_count [] are = omega arith
views_count (view ∷ views) are = omega (
  arith,
  length-append (held_for_locals view.locals) (held_for_views views),
  locals_count view.locals (All-head AllMeasured view views are),
  sum_map bare_local bare_blocks view.locals,
  views_count views (All-tail AllMeasured view views are),
  sum_by-append bare_blocks (map bare_local view.locals) (bare_files views),
)

pub held_used : HeldAreUsed
held_used tables are measured = omega (
  arith,
  length-append (held_for_contents tables.contents) (held_for_views tables.views),
  contents_count tables.contents measured.contents,
  views_count tables.views measured.locals,
  blocks_by (standing_files (map bare_row tables.views)) tables.contents are.contents,
)
