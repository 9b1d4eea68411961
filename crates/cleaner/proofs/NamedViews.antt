-- The views that applications and leases name, as lists and by tests.
use Rattle.std.proofs.Common.{◌≡◌, ◌∙◌, ◌++◌, ◌+◌, ◌<◌, ◌||◌, refl, sym, ap, append_assoc, ℕ, Bool, true, false, not, eqb, eq-eqb, cond, List, [], ◌∷◌, length, map, get_or, drop, All, IsSome, Option, Some, None}
use Rattle.std.specs.Prelude.{filter, flat_map, option_to_list}
use Rattle.std.specs.List.{list_any}
use Rattle.std.specs.List.Sorted.{IsPermutation}
use Rattle.std.proofs.Math.Bool.{or-false}
use Rattle.std.proofs.lemmas.Bool.{false≢true}
use Rattle.std.proofs.lemmas.List.{drop_more}
use Rattle.std.proofs.lemmas.List.Folds.{list_any-append}
use Rattle.std.proofs.lemmas.List.Sorted.{list_any-IsPermutation}
use Rattle.small_types.specs.declared.room.Room.{Room}
use Rattle.machine.specs.declared.app.AppState.{AppState}
use Rattle.machine.specs.declared.lease.Lease.{Lease}
use Rattle.machine.specs.CleanRow.{removable}
use Rattle.machine.specs.InUse.{IsInUse, is_in_use, is_number, is_of_app}
use Rattle.machine.specs.Shape.{BareView}
use Rattle.machine.proofs.FirstFound.{find_some, some_there}
use Rattle.machine.proofs.Members.{filter_in, in_all, map_in}
use Rattle.machine.proofs.ViewUse.{is_used}
use Rattle.store_state.specs.declared.view.View.{View}
use Rattle.store_state.specs.Rows.{row_at}
use Rattle.store_state.specs.Tables.{Tables, bare_row, table_shape}
use Rattle.cleaner.specs.Used.{named_numbers}

module _ (number : ℕ) where
  abbrev is_it : ℕ → Bool
  is_it n = eqb n number

  of_option : (o : Option ℕ) → list_any (λ (n : ℕ). eqb n number) (option_to_list o)
      ≡ is_number number o
  of_option None = refl
  of_option (Some other) = or-false (eqb other number)

  of_app : (app : AppState) → list_any is_it (named_numbers app) ≡ is_of_app number app
  of_app app =
      list_any-append is_it (option_to_list app.current) (option_to_list app.previous)
      ∙ ap (λ (b : Bool). b || list_any is_it (option_to_list app.previous)) (of_option app.current)
      ∙ ap (λ (b : Bool). is_number number app.current || b) (of_option app.previous)

  of_apps : (apps : List AppState)
      → list_any is_it (flat_map named_numbers apps) ≡ list_any (is_of_app number) apps
  of_apps [] = refl
  of_apps (app ∷ apps) =
      list_any-append is_it (named_numbers app) (flat_map named_numbers apps)
      ∙ ap (λ (b : Bool). b || list_any is_it (flat_map named_numbers apps)) (of_app app)
      ∙ ap (λ (b : Bool). is_of_app number app || b) (of_apps apps)

  of_leases : (leases : List Lease)
      → list_any is_it (map (λ (lease : Lease). lease.view) leases)
      ≡ list_any (λ (lease : Lease). eqb lease.view number) leases
  of_leases [] = refl
  of_leases (lease ∷ leases) =
      ap (λ (b : Bool). eqb lease.view number || b) (of_leases leases)

  -- whatever their order
  pub used_any : (apps : List AppState) (leases : List Lease) (all used : List ℕ)
      → all ≡ flat_map named_numbers apps ++ map (λ (lease : Lease). lease.view) leases
      → IsPermutation all used
      → list_any (λ (n : ℕ). eqb n number) used ≡ is_in_use number apps leases
  used_any apps leases all used is moved =
      sym (list_any-IsPermutation is_it all used moved)
      ∙ ap (list_any is_it) is
      ∙ list_any-append is_it (flat_map named_numbers apps)
      (map (λ (lease : Lease). lease.view) leases)
      ∙ ap (λ (b : Bool). b || list_any is_it (map (λ (lease : Lease). lease.view) leases))
      (of_apps apps)
      ∙ ap (λ (b : Bool). list_any (is_of_app number) apps || b) (of_leases leases)

-- ---- one view more

module _ (used : List ℕ) where
  abbrev is_free : ℕ → Bool
  is_free number = not (list_any (λ (n : ℕ). eqb n number) used)

  -- the numbers of the views that are not used
  abbrev pub free_numbers : List View → List ℕ
  free_numbers views =
      filter (λ (number : ℕ). not (list_any (λ (n : ℕ). eqb n number) used))
      (map (λ (view : View). view.number) views)

  module _ (views : List View) (place : ℕ) (view : View) (is : view ≡ get_or views place view)
      (within : place < length views) where
    here : drop place views ≡ view ∷ drop (place + 1) views
    here =
        drop_more views place view within
        ∙ ap (λ (v : View). v ∷ drop (place + 1) views) (sym is)

    split : (b : Bool) → list_any (λ (n : ℕ). eqb n view.number) used ≡ b
        → free_numbers (drop place views)
        ≡ cond (not b) (view.number ∷ free_numbers (drop (place + 1) views))
        (free_numbers (drop (place + 1) views))
    split b found =
        ap free_numbers here
        ∙ ap (λ (c : Bool). cond (not c) (view.number ∷ free_numbers (drop (place + 1) views))
        (free_numbers (drop (place + 1) views))) found

    pub one_free : (answer : Bool) (before after all : List ℕ)
        → answer ≡ list_any (λ (n : ℕ). eqb n view.number) used → answer ≡ false
        → after ≡ before ++ view.number ∷ []
        → before ++ free_numbers (drop place views) ≡ all
        → after ++ free_numbers (drop (place + 1) views) ≡ all
    one_free answer before after all tested free more was =
        ap (λ (ns : List ℕ). ns ++ free_numbers (drop (place + 1) views)) more
        ∙ append_assoc before (view.number ∷ []) (free_numbers (drop (place + 1) views))
        ∙ ap (λ (ns : List ℕ). before ++ ns) (sym (split false (sym tested ∙ free)))
        ∙ was

    pub one_used : (answer : Bool) (before all : List ℕ)
        → answer ≡ list_any (λ (n : ℕ). eqb n view.number) used → answer ≡ true
        → before ++ free_numbers (drop place views) ≡ all
        → before ++ free_numbers (drop (place + 1) views) ≡ all
    one_used answer before all tested taken was =
        ap (λ (ns : List ℕ). before ++ ns) (sym (split true (sym tested ∙ taken))) ∙ was

-- ---- what may be removed

-- tests that agree keep the same
filter_same : {X : Type 0} (p q : X → Bool) → ((x : X) → p x ≡ q x) → (xs : List X)
    → filter p xs ≡ filter q xs
filter_same p q agree [] = refl
filter_same {X} p q agree (x ∷ xs) =
    ap (λ (b : Bool). cond b (x ∷ filter p xs) (filter p xs)) (agree x)
    ∙ ap (λ (ys : List X). cond (q x) (x ∷ ys) ys) (filter_same p q agree xs)

bare_numbers : (views : List View)
    → map (λ (view : View). view.number) views
    ≡ map (λ (view : BareView). view.number) (map bare_row views)
bare_numbers [] = refl
bare_numbers (view ∷ views) =
    ap (λ (ns : List ℕ). view.number ∷ ns) (bare_numbers views)

module _ (room : Room) (tables : Tables) where
  -- those that are not among the used ones
  pub free_is : (used : List ℕ)
      → ((number : ℕ) → list_any (λ (n : ℕ). eqb n number) used
      ≡ is_in_use number tables.apps tables.leases)
      → free_numbers used tables.views ≡ removable (table_shape room tables)
  free_is used is =
      filter_same (λ (number : ℕ). not (list_any (λ (n : ℕ). eqb n number) used))
      (λ (number : ℕ). not (is_in_use number tables.apps tables.leases))
      (λ number. ap not (is number)) (map (λ (view : View). view.number) tables.views)
      ∙ ap (filter (λ (number : ℕ). not (is_in_use number tables.apps tables.leases)))
      (bare_numbers tables.views)

  abbrev numbers : List ℕ
  numbers = removable (table_shape room tables)

  -- each is that of a view
  pub removable_kept : All (λ (number : ℕ). IsSome (row_at number tables.views))
      (removable (table_shape room tables))
  removable_kept =
      in_all (λ (number : ℕ). IsSome (row_at number tables.views)) numbers (λ number there. (
      let listed = (filter_in (λ (n : ℕ). not (is_in_use n tables.apps tables.leases)) _ number
      there).1 in
      let bare = map_in (λ (view : BareView). view.number) (map bare_row tables.views) number listed
      in
      let row = map_in bare_row tables.views bare.0 bare.1 in
      let own : row.0.number ≡ number = ap (λ (view : BareView). view.number) row.2 ∙ bare.2 in
      let one = find_some (λ (view : View). eqb view.number number) tables.views row.0 row.1
      (eq-eqb row.0.number number own) in
      some_there (row_at number tables.views) one.0 one.1
      ))

  -- and in no use
  pub removable_unused : All (λ (number : ℕ). ¬ IsInUse number tables.apps tables.leases)
      (removable (table_shape room tables))
  removable_unused =
      in_all (λ (number : ℕ). ¬ IsInUse number tables.apps tables.leases) numbers
      (λ number there used. (
      let free = (filter_in (λ (n : ℕ). not (is_in_use n tables.apps tables.leases)) _ number
      there).0 in
      false≢true (sym (ap not (is_used number tables.apps tables.leases used)) ∙ free)
      ))
