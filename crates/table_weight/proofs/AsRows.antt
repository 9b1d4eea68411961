-- Tables weigh what their views and applications do without the bytes of their files.
use Rattle.std.proofs.Common.{◌≡◌, List, [], ◌∷◌, map, arith}
use Rattle.std.specs.Prelude.{sum_by}
use Rattle.std.proofs.lemmas.List.Sums.{sum_by-cons}
use Rattle.machine.specs.Blocks.{standing_files}
use Rattle.machine.specs.Weight.{data_weight, weight_of}
use Rattle.machine.specs.Weight.{view_weight as bare_weight}
use Rattle.machine.proofs.Members.{sum_map}
use Rattle.store_state.specs.declared.view.View.{View}
use Rattle.store_state.specs.Kept.{AreTables}
use Rattle.store_state.specs.Tables.{Tables, bare_local, bare_row}
use Rattle.table_weight.specs.Weight.{block_cost, local_weight, tables_weight, view_weight, weight_with}
use Rattle.table_weight.proofs.ByKey.{contents_weigh}

-- data files
pub locals_weigh : (view : View)
    → sum_by (local_weight block_cost) view.locals
    ≡ sum_by data_weight (map bare_local view.locals)
unfolding local_weight data_weight
locals_weigh view = omega (arith, sum_map bare_local data_weight view.locals)

-- a view
pub row_weighs : (view : View) → view_weight block_cost view ≡ bare_weight (bare_row view)
unfolding view_weight bare_weight
row_weighs view = omega (arith, locals_weigh view)

pub rows_weigh : (views : List View)
    → sum_by (view_weight block_cost) views ≡ sum_by bare_weight (map bare_row views)
rows_weigh [] = omega arith
rows_weigh (view ∷ views) =
    omega (
      arith,
      row_weighs view,
      rows_weigh views,
      sum_by-cons (view_weight block_cost) view views,
      sum_by-cons bare_weight (bare_row view) (map bare_row views),
    )

pub shown_weight : (tables : Tables) → AreTables tables
    → tables_weight tables ≡ weight_of (map bare_row tables.views) tables.apps
unfolding weight_with weight_of
shown_weight tables are =
    omega (
      arith,
      rows_weigh tables.views,
      contents_weigh (standing_files (map bare_row tables.views)) tables.contents are.contents,
    )
