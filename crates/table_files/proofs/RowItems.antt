-- What is held for the data files of views, once one view is changed.
use Rattle.std.proofs.Common.{◌≡◌, ◌∙◌, ◌+◌, ◌<◌, ◌++◌, refl, sym, ap, subst, ℕ, Bool, true, false, cond, eqb, eqb-true, ne_eqb, List, [], ◌∷◌, All, Some, arith}
use Rattle.std.specs.Prelude.{filter, not, sum_by}
use Rattle.std.specs.List.{flat_map}
use Rattle.std.proofs.lemmas.Bool.{cond-false}
use Rattle.std.proofs.lemmas.List.Elements.{All-head, All-tail}
use Rattle.std.proofs.lemmas.List.Filters.{sum_by-filter_both}
use Rattle.std.proofs.lemmas.List.Sums.{sum_by-append, sum_by-cons}
use Rattle.std.proofs.lemmas.Option.{same_Some}
use Rattle.machine.proofs.Members.{pairs_head, pairs_tail}
use Rattle.store_state.specs.declared.view.View.{View}
use Rattle.store_state.specs.Rows.{row_at, with_row}
use Rattle.store_state.proofs.ByNumber.{Rise}
use Rattle.store_state.proofs.GrownTables.{of_view}
use Rattle.table_files.specs.Held.{held_for_locals, held_for_views}
use Rattle.table_files.proofs.LocalItems.{total}

-- where no view has the number, none is changed
none_changed : (number : ℕ) (f : View → View) (views : List View)
    → All (λ (v : View). number < v.number) views → with_row number f views ≡ views
none_changed number f [] above = refl
none_changed number f (view ∷ views) above =
    let over = All-head (λ (v : View). number < v.number) view views above in
    ap (λ (v : View). v ∷ with_row number f views)
    (cond-false (eqb view.number number) (f view) view
    (ne_eqb view.number number (λ same. omega (arith, over, same))))
    ∙ ap (λ (vs : List View). view ∷ vs)
    (none_changed number f views (All-tail (λ (v : View). number < v.number) view views above))

-- a change of a view that leaves its data files
pub same_locals : (number : ℕ) (f : View → View) → ((view : View) → (f view).locals ≡ view.locals)
    → (views : List View) → held_for_views (with_row number f views) ≡ held_for_views views
same_locals number f keeps [] = refl
same_locals number f keeps (view ∷ views) =
    ap (λ (items : List ℕ). items ++ held_for_views (with_row number f views))
    (by (eqb view.number number))
    ∙ ap (λ (items : List ℕ). held_for_locals view.locals ++ items)
    (same_locals number f keeps views)
  where
    by : (b : Bool) → held_for_locals (cond b (f view) view).locals ≡ held_for_locals view.locals
    by true = ap held_for_locals (keeps view)
    by false = refl

module _ (w : ℕ → ℕ) where
  -- one view more in front
  total-views : (view : View) (views : List View)
      → total w (held_for_views (view ∷ views))
      ≡ total w (held_for_locals view.locals) + total w (held_for_views views)
  total-views view views = sum_by-append w (held_for_locals view.locals) (held_for_views views)

  -- what goes into the view of the number, and what comes out of it
  pub row_total : (number : ℕ) (f : View → View) (into out : ℕ) (row : View) (views : List View)
      → Rise of_view views → row_at number views ≡ Some row
      → total w (held_for_locals (f row).locals) + out
      ≡ total w (held_for_locals row.locals) + into
      → total w (held_for_views (with_row number f views)) + out
      ≡ total w (held_for_views views) + into
  row_total number f into out row [] rise there changed = absurd cc
  row_total number f into out row (view ∷ views) rise there changed =
      by (eqb view.number number) refl
      (λ later. row_total number f into out row views
      (pairs_tail (λ (a b : View). a.number < b.number) view views rise) later changed)
    where
      by : (b : Bool) → eqb view.number number ≡ b
          → (row_at number views ≡ Some row
          → total w (held_for_views (with_row number f views)) + out
          ≡ total w (held_for_views views) + into)
          → total w (held_for_views (with_row number f (view ∷ views))) + out
          ≡ total w (held_for_views (view ∷ views)) + into
      by true e behind =
          let is : view ≡ row = same_Some view row
          (sym (ap (λ (b : Bool). cond b (Some view) (row_at number views)) e) ∙ there) in
          let number_is : view.number ≡ number = eqb-true view.number number e in
          let rest = none_changed number f views
          (subst (λ (n : ℕ). All (λ (v : View). n < v.number) views) number_is
          (pairs_head (λ (a b : View). a.number < b.number) view views rise)) in
          let made : with_row number f (view ∷ views) ≡ f view ∷ views =
          ap (λ (b : Bool). cond b (f view) view ∷ with_row number f views) e
          ∙ ap (λ (vs : List View). f view ∷ vs) rest in
          omega (
            arith,
            changed,
            ap (λ (vs : List View). total w (held_for_views vs)) made,
            total-views (f view) views,
            total-views view views,
            ap (λ (v : View). total w (held_for_locals (f v).locals)) is,
            ap (λ (v : View). total w (held_for_locals v.locals)) is,
          )
      by false e behind =
          let more = behind
          (sym (ap (λ (b : Bool). cond b (Some view) (row_at number views)) e) ∙ there) in
          let made : with_row number f (view ∷ views) ≡ view ∷ with_row number f views =
          ap (λ (b : Bool). cond b (f view) view ∷ with_row number f views) e in
          omega (
            arith,
            more,
            ap (λ (vs : List View). total w (held_for_views vs)) made,
            total-views view (with_row number f views),
            total-views view views,
          )

  -- ---- those that pass a test, and the others

  total_each : {X : Type 0} (items : X → List ℕ) (xs : List X)
      → total w (flat_map items xs) ≡ sum_by (λ (x : X). total w (items x)) xs
  total_each items [] = refl
  total_each {X} items (x ∷ xs) = omega (
    arith,
    sum_by-append w (items x) (flat_map items xs),
    sum_by-cons (λ (y : X). total w (items y)) x xs,
    total_each items xs,
  )

  pub total_parted : {X : Type 0} (items : X → List ℕ) (p : X → Bool) (xs : List X)
      → total w (flat_map items (filter p xs))
      + total w (flat_map items (filter (λ (x : X). not (p x)) xs))
      ≡ total w (flat_map items xs)
  total_parted {X} items p xs = omega (
    arith,
    total_each items (filter p xs),
    total_each items (filter (λ (x : X). not (p x)) xs),
    total_each items xs,
    sum_by-filter_both p (λ (x : X). not (p x)) (λ x. refl)
        (λ (x : X). total w (items x)) xs,
  )
