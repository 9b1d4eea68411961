-- A put that is not refused fits the tables.
use Rattle.std.proofs.Common.{◌≡◌, ◌≤◌, ◌<◌, inr, refl, sym, ap, subst, ℕ, Bool, true, false, cond, not, List, length, Option, Some, None, arith}
use Rattle.std.specs.Prelude.{IsSomeAnd}
use Rattle.small_types.specs.declared.room.Room.{Room}
use Rattle.small_types.specs.declared.limits.TheConstants.{LOCAL_COUNT_LIMIT, LOCAL_NAME_LIMIT}
use Rattle.small_types.specs.Name.{IsName}
use Rattle.manifests.specs.Applications.{is_below_pre}
use Rattle.machine.specs.DataFiles.{with_named}
use Rattle.machine.specs.Weight.{IsLight}
use Rattle.machine.proofs.Lightness.{is_light}
use Rattle.machine.proofs.Members.{all_in}
use Rattle.machine.proofs.NamedItems.{sum-with_known, sum-with_named}
use Rattle.store_state.specs.declared.change.Change.TheVariants as change
use Rattle.store_state.specs.declared.view.LocalFile.{LocalFile}
use Rattle.store_state.specs.declared.view.View.{View}
use Rattle.store_state.specs.Change.{Fits, FitsPut, IsRow, MayPut, effect}
use Rattle.store_state.specs.Kept.{AreTables}
use Rattle.store_state.specs.Locals.{local_name, local_named, outside_locals}
use Rattle.store_state.specs.Tables.{Tables, bare_row}
use Rattle.table_weight.specs.Laws.{WeighWithData}
use Rattle.table_weight.specs.Weight.{tables_weight}
use Rattle.install_plan.proofs.LeasedRows.{row_there}
use Rattle.updater.specs.PutStep.{IsPutStep, file_of}
use Rattle.updater.proofs.LeasedData.{bare, bare_none, is_leased, is_row}
use Rattle.updater.proofs.PutRefused.{outside_bare, weight_with}

-- how many outside `.pre` one data file is
abbrev counts : LocalFile → ℕ
counts file = cond (not (is_below_pre file.name)) 1 0

at_most_one : (b : Bool) → cond b 1 0 ≤ 1
at_most_one true = omega arith
at_most_one false = omega arith

module _ (lease : ℕ) (room : Room) (name bytes : List ℕ) (tables : Tables)
    (are : AreTables tables) (named : IsName name) (number : ℕ)
    (of : IsPutStep room lease name bytes tables number) (blocks : List ℕ) where
  abbrev made : LocalFile
  made = file_of name (length bytes) blocks

  row : IsRow of.row
  row = all_in IsRow tables.views of.row are.rows
      (row_there (is_leased lease name room tables of.row of.leased))

  few : (found : Option LocalFile) → local_named name of.row.locals ≡ found
      → outside_locals (with_named local_name made of.row.locals) ≤ LOCAL_COUNT_LIMIT
  few None none =
      let same = outside_bare of.row.locals in
      let place : outside_locals of.row.locals < LOCAL_COUNT_LIMIT =
      by (λ many. of.passes.1.1.0 (
        bare_row of.row,
        bare lease name room tables of.row of.leased,
        bare_none lease name room tables of.row of.leased none,
        subst (λ (n : ℕ). LOCAL_COUNT_LIMIT ≤ n) (sym same) many,
      )) in
      let more = sum-with_named local_name made counts of.row.locals in
      let one = at_most_one (not (is_below_pre name)) in
      omega (arith, place, more, one)
    where
      by : (LOCAL_COUNT_LIMIT ≤ outside_locals of.row.locals → ⊥)
          → outside_locals of.row.locals < LOCAL_COUNT_LIMIT
      by some = omega (arith, some)
  few (Some found) there =
      let same = sum-with_known local_name made counts
      (λ x own. ap (λ (n : List ℕ). cond (not (is_below_pre n)) 1 0) own) of.row.locals
      row.order found there in
      let was = row.few in
      omega (arith, same, was)

  may : MayPut made of.row
  may = record {
    local = record {
      name = named;
      short = λ outside. by (λ long. of.passes.1.0 (inr long));
    };
    few = few (local_named name of.row.locals) refl;
  }
    where
      by : (LOCAL_NAME_LIMIT < length name → ⊥) → length name ≤ LOCAL_NAME_LIMIT
      by short = omega (arith, short)

  fits : FitsPut tables of.row.number made
  fits = subst (λ (o : Option View). IsSomeAnd o (MayPut made))
      (sym (is_row lease name room tables of.row of.leased)) may

  pub put_fits : (file : LocalFile) → file ≡ made → Fits tables (change.Put number file)
  put_fits file is =
      subst (λ (f : LocalFile). Fits tables (change.Put number f)) (sym is)
      (subst (λ (n : ℕ). Fits tables (change.Put n made)) (sym of.view) fits)

  -- and the tables have room for it
  leased_light : WeighWithData → FitsPut tables of.row.number made
      → IsLight room (tables_weight (effect (change.Put of.row.number made) tables))
  leased_light weigh fit =
      let weight = weight_with room tables of.row.number name bytes in
      subst (IsLight room) (sym (weigh tables of.row.number made are fit))
      (is_light room weight (λ heavy. of.passes.1.1.1.1.0 weight
      (bare_row of.row, bare lease name room tables of.row of.leased, refl, heavy)))

  pub put_light : WeighWithData → (file : LocalFile) → file ≡ made
      → IsLight room (tables_weight (effect (change.Put number file) tables))
  put_light weigh file is =
      subst (λ (f : LocalFile). IsLight room (tables_weight (effect (change.Put number f) tables))) (sym is)
      (subst (λ (n : ℕ). IsLight room (tables_weight (effect (change.Put n made) tables))) (sym of.view)
      (leased_light weigh fits))
