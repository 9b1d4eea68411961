-- What a view weighs that gets a data file or a group.
use Rattle.std.proofs.Common.{◌≡◌, ◌≢◌, ◌∙◌, ◌+◌, refl, sym, ap, subst, ℕ, Bool, cond, eqb, eq-eqb, ne_eqb, min, bytes_eq, List, [], ◌∷◌, map, All, AllPairs, arith}
use Rattle.std.specs.Prelude.{sum_by}
use Rattle.std.specs.declared.cmp.Ordering.{Ordering}
use Rattle.std.specs.declared.cmp.Ordering.TheVariants.{Less, Equal, Greater}
use Rattle.std.specs.Ordering.{ordering_reverse}
use Rattle.std.proofs.lemmas.Bool.{cond-false, cond-true}
use Rattle.std.proofs.lemmas.List.Elements.{All-head, All-tail, All-weaker}
use Rattle.std.proofs.lemmas.List.Sums.{sum_by-append, sum_by-cons}
use Rattle.identity.specs.Printed.{text_cmp}
use Rattle.machine.specs.BareViews.{with_bare_data, with_bare_group}
use Rattle.machine.specs.DataFiles.{bare_name, with_named, with_named_at}
use Rattle.machine.specs.Shape.{BareData, BareView}
use Rattle.machine.specs.Weight.{data_weight, group_weight}
use Rattle.machine.specs.Weight.{view_weight as bare_weight}
use Rattle.machine.proofs.EntryOrder.{order}
use Rattle.machine.proofs.Members.{pairs_head, pairs_map, pairs_tail, sum_map}
use Rattle.machine.proofs.NamedItems.{Rises, not_equal, other_name, own_name}
use Rattle.machine.proofs.Keys.{equal_texts}
use Rattle.store_state.specs.declared.view.LocalFile.{LocalFile}
use Rattle.store_state.specs.declared.view.View.{View}
use Rattle.store_state.specs.Tables.{bare_local, bare_row}
use Rattle.table_weight.specs.Releases.{release_weight}
use Rattle.table_weight.specs.Weight.{block_cost, local_weight, view_weight}
use Rattle.table_weight.proofs.AsRows.{row_weighs}

-- ---- an item that takes the place of one of its name

module _ {A : Type 0} (name_of : A → List ℕ) (w : A → ℕ) (item : A) where
  -- what the items of other names weigh
  abbrev pub other_weight : A → ℕ
  other_weight x = cond (bytes_eq (name_of x) (name_of item)) 0 (w x)

  abbrev IsAbove : A → Type 0
  IsAbove x = text_cmp (name_of item) (name_of x) ≡ Less

  apart_weighs : (x : A) → name_of x ≢ name_of item → other_weight x ≡ w x
  apart_weighs x apart =
      cond-false (bytes_eq (name_of x) (name_of item)) 0 (w x)
      (other_name (name_of x) (name_of item) apart)

  own_weighs : (x : A) → name_of x ≡ name_of item → other_weight x ≡ 0
  own_weighs x same =
      cond-true (bytes_eq (name_of x) (name_of item)) 0 (w x)
      (own_name (name_of x) (name_of item) same)

  above_weighs : (x : A) → IsAbove x → other_weight x ≡ w x
  above_weighs x less =
      apart_weighs x (λ same. not_equal (name_of item) (name_of x) less (sym same))

  above_sum : (xs : List A) → All IsAbove xs → sum_by other_weight xs ≡ sum_by w xs
  above_sum [] above = refl
  above_sum (x ∷ xs) above =
      omega (
        arith,
        above_weighs x (All-head IsAbove x xs above),
        above_sum xs (All-tail IsAbove x xs above),
        sum_by-cons other_weight x xs,
        sum_by-cons w x xs,
      )

  all_above : (x : A) (xs : List A) → IsAbove x → All (Rises name_of x) xs → All IsAbove xs
  all_above x xs less rise =
      All-weaker (Rises name_of x) IsAbove
      (λ y later. order.trans (name_of item) (name_of x) (name_of y) less later) xs rise

  named_at : (o : Ordering) (x : A) (xs rest : List A)
      → text_cmp (name_of x) (name_of item) ≡ o → All (Rises name_of x) xs
      → sum_by w rest ≡ w item + sum_by other_weight xs
      → sum_by w (with_named_at o item x xs rest) ≡ w item + sum_by other_weight (x ∷ xs)
  named_at Less x xs rest is rise later =
      omega (
        arith,
        later,
        apart_weighs x (not_equal (name_of x) (name_of item) is),
        sum_by-cons w x rest,
        sum_by-cons other_weight x xs,
      )
  named_at Equal x xs rest is rise later =
      let same : name_of x ≡ name_of item = equal_texts (name_of x) (name_of item) is in
      let above = subst (λ (n : List ℕ). All (λ (y : A). text_cmp n (name_of y) ≡ Less) xs) same
      rise in
      omega (
        arith,
        own_weighs x same,
        above_sum xs above,
        sum_by-cons w item xs,
        sum_by-cons other_weight x xs,
      )
  named_at Greater x xs rest is rise later =
      let less : IsAbove x =
      order.antisymm (name_of item) (name_of x) ∙ ap ordering_reverse is in
      omega (
        arith,
        above_weighs x less,
        above_sum xs (all_above x xs less rise),
        sum_by-cons w item (x ∷ xs),
        sum_by-cons w x xs,
        sum_by-cons other_weight x xs,
      )

  pub named_sum : (xs : List A) → AllPairs (Rises name_of) xs
      → sum_by w (with_named name_of item xs) ≡ w item + sum_by other_weight xs
  named_sum [] rise = sum_by-cons w item []
  named_sum (x ∷ xs) rise =
      named_at (text_cmp (name_of x) (name_of item)) x xs (with_named name_of item xs) refl
      (pairs_head (Rises name_of) x xs rise) (named_sum xs (pairs_tail (Rises name_of) x xs rise))

-- ---- a view with a data file

-- what a data file of another name weighs
abbrev pub beside_weight : List ℕ → LocalFile → ℕ
beside_weight name file = cond (bytes_eq file.name name) 0 (local_weight block_cost file)

module _ (view : View) (file : BareData)
    (rising : AllPairs (λ (f g : LocalFile). text_cmp f.name g.name ≡ Less) view.locals) where
  others_weigh : sum_by (other_weight bare_name data_weight file) (map bare_local view.locals)
      ≡ sum_by (beside_weight file.name) view.locals
  unfolding data_weight local_weight
  others_weigh = sum_map bare_local (other_weight bare_name data_weight file) view.locals

  pub put_weighs : bare_weight (with_bare_data file (bare_row view))
      ≡ release_weight view.deployment view.application view.base
      + sum_by group_weight view.groups + sum_by (beside_weight file.name) view.locals
      + data_weight file
  unfolding bare_weight
  put_weighs =
      omega (
        arith,
        others_weigh,
        named_sum bare_name data_weight file (map bare_local view.locals)
            (pairs_map bare_local (λ (f g : LocalFile). text_cmp f.name g.name ≡ Less)
            (Rises bare_name) view.locals (λ f g less. less) rising),
      )

-- ---- a view with a group

pub grown_weighs : (view : View) (group : List ℕ)
    → bare_weight (with_bare_group group (bare_row view))
    ≡ view_weight block_cost view + group_weight group
unfolding bare_weight
grown_weighs view group =
    let more = sum_by-append group_weight view.groups (group ∷ []) in
    let last = sum_by-cons group_weight group [] in
    let row = row_weighs view in
    omega (arith, more, last, row)

-- ---- a view that is changed where it has a number

module _ (m n : ℕ) (x y : BareView) (sum limit : ℕ) where
  pub where_same : m ≡ n → sum ≡ min (bare_weight x) limit
      → sum ≡ min (bare_weight (cond (eqb m n) x y)) limit
  where_same is summed =
      summed
      ∙ ap (λ (c : Bool). min (bare_weight (cond c x y)) limit) (sym (eq-eqb m n is))

  pub where_other : m ≢ n → sum ≡ min (bare_weight y) limit
      → sum ≡ min (bare_weight (cond (eqb m n) x y)) limit
  where_other differ summed =
      summed
      ∙ ap (λ (c : Bool). min (bare_weight (cond c x y)) limit) (sym (ne_eqb m n differ))

pub as_row : (view : View) (sum limit : ℕ) → sum ≡ min (view_weight block_cost view) limit
    → sum ≡ min (bare_weight (bare_row view)) limit
as_row view sum limit summed =
    summed ∙ ap (λ (n : ℕ). min n limit) (row_weighs view)
