-- The data files of a release that is installed weigh what those do without their order.
use Rattle.std.proofs.Common.{◌≡◌, ◌∙◌, refl, sym, ap, subst, eqb, ℕ, List, map, AllPairs, Option, Some, None, arith}
use Rattle.std.specs.Prelude.{IfSome, option_map, sum_by}
use Rattle.std.specs.declared.cmp.Ordering.TheVariants.{Less}
use Rattle.identity.specs.Printed.{text_cmp}
use Rattle.identity.specs.declared.key.Key.{Key}
use Rattle.manifests.specs.declared.facts.FileEntry.{FileEntry}
use Rattle.machine.specs.BareViews.{migrated_data}
use Rattle.machine.specs.Current.{bare_data_of, bare_listed_by, current_of}
use Rattle.machine.specs.Shape.{BareData, BareView, bare_data}
use Rattle.machine.specs.Views.{DataFile}
use Rattle.machine.specs.Weight.{data_weight}
use Rattle.machine.proofs.FirstFound.{find_in, then_value}
use Rattle.machine.proofs.ChangedLists.{pairs_unmap}
use Rattle.machine.proofs.Members.{all_in, pairs_map}
use Rattle.machine.proofs.MigratedData.{migrated_weight}
use Rattle.store_state.specs.declared.view.LocalFile.{LocalFile}
use Rattle.store_state.specs.declared.view.View.{View}
use Rattle.store_state.specs.Change.{IsRow}
use Rattle.store_state.specs.Kept.{AreTables}
use Rattle.store_state.specs.Rows.{current_row, row_at, row_files, row_locals}
use Rattle.store_state.specs.Tables.{Tables, bare_local, bare_row}
use Rattle.store_state.proofs.Current.{bare_current}
use Rattle.table_weight.specs.Laws.{MigratedDataWeigh}

-- ---- in order of their names

abbrev IsBefore : DataFile → DataFile → Type 0
IsBefore f g = text_cmp f.name g.name ≡ Less

abbrev IsRowBefore : LocalFile → LocalFile → Type 0
IsRowBefore f g = text_cmp f.name g.name ≡ Less

abbrev IsBareBefore : BareData → BareData → Type 0
IsBareBefore f g = text_cmp f.name g.name ≡ Less

-- files of the names of others are in their order
in_that_order : (files : List DataFile) (rows : List LocalFile)
    → map bare_data files ≡ map bare_local rows → AllPairs IsRowBefore rows
    → AllPairs IsBefore files
in_that_order files rows same order =
    pairs_unmap bare_data IsBareBefore files
    (subst (AllPairs IsBareBefore) (sym same)
    (pairs_map bare_local IsRowBefore IsBareBefore rows (λ f g less. less) order))

-- ---- the view that is current, or none

current_is : (key : Key) (tables : Tables) → AreTables tables → (o : Option View)
    → current_row key tables ≡ o → IfSome o IsRow
current_is key tables are None is = tt
current_is key tables are (Some view) is =
    let number = then_value (λ (n : ℕ). row_at n tables.views) (current_of key tables.apps) view is
    in
    all_in IsRow tables.views view are.rows
    (find_in (λ (v : View). eqb v.number number.0) tables.views view number.2).0

rows_order : (o : Option View) → IfSome o IsRow → AllPairs IsRowBefore (row_locals o)
rows_order None row = λ i j d lt within. absurd (omega arith)
rows_order (Some view) row = row.order

-- what its release leads to, as the tables have it without blocks
bare_weight : (o : Option View) (new_files : List FileEntry)
    → sum_by data_weight (migrated_data (map bare_local (row_locals o)) (row_files o) new_files)
    ≡ sum_by data_weight
    (migrated_data (bare_data_of (option_map bare_row o)) (bare_listed_by (option_map bare_row o))
    new_files)
bare_weight None new_files = refl
bare_weight (Some view) new_files = refl

-- ---- a new view

pub migrated_weigh : MigratedDataWeigh
migrated_weigh room tables view old new originals are row old_bare new_bare deployed sized migrated =
    let key = view.deployment.identity.key in
    let files = view.application.files in
    let current = current_row key tables in
    ap (λ (ds : List BareData). sum_by data_weight ds) (sym new_bare)
    ∙ migrated_weight old (row_files current) view.application originals
    (in_that_order old (row_locals current) old_bare
    (rows_order current (current_is key tables are current refl)))
    row.application.facts deployed sized new migrated
    ∙ ap (λ (ds : List BareData).
    sum_by data_weight (migrated_data ds (row_files current) files)) old_bare
    ∙ bare_weight current files
    ∙ ap (λ (o : Option BareView).
    sum_by data_weight (migrated_data (bare_data_of o) (bare_listed_by o) files))
    (bare_current key tables room)
