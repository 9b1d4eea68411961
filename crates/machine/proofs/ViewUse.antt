-- The test of whether a view is in use.
use Rattle.std.proofs.Common.{◌≡◌, ◌⊎◌, ◌==◌, ◌||◌, inl, inr, refl, ap, ℕ, Bool, true, false, eqb-true, eq-eqb, List, Any, Option, Some, None}
use Rattle.std.specs.List.{list_any}
use Rattle.std.proofs.lemmas.Bool.{false≢true, or_left, or_right}
use Rattle.std.proofs.lemmas.Option.{none-some, same_Some}
use Rattle.machine.specs.declared.app.AppState.{AppState}
use Rattle.machine.specs.declared.lease.Lease.{Lease}
use Rattle.machine.specs.InUse.{IsInUse, is_in_use, is_number, is_of_app}
use Rattle.machine.proofs.Members.{In, contains_in, in_contains}
use Rattle.machine.proofs.OwnContents.{in_passes, passes_in}

either : (a b : Bool) → (a || b) ≡ true → (a ≡ true) ⊎ (b ≡ true)
either true b is = inl refl
either false b is = inr is

-- ---- one of them

-- by the elements of a list
pub any_in : {X : Type 0} (P : X → Type 0) (xs : List X) (x : X) → In x xs → P x → Any P xs
any_in P xs x there holds = let at = contains_in xs x there in (at.0, x, at.1, at.2, holds)

pub in_any : {X : Type 0} (P : X → Type 0) (xs : List X) → Any P xs → (x : X) × In x xs × P x
in_any P xs found = (found.1, in_contains xs found.1 (found.0, found.2, found.3), found.4)

-- ---- the number

number_is : (number : ℕ) (o : Option ℕ) → is_number number o ≡ true → o ≡ Some number
number_is number None is = absurd (false≢true is)
number_is number (Some other) is = ap Some (eqb-true other number is)

is_number_of : (number : ℕ) (o : Option ℕ) → o ≡ Some number → is_number number o ≡ true
is_number_of number None is = absurd (none-some number is)
is_number_of number (Some other) is = eq-eqb other number (same_Some other number is)

abbrev pub Names : ℕ → AppState → Type 0
Names number app = (app.current ≡ Some number) ⊎ (app.previous ≡ Some number)

names : (number : ℕ) (app : AppState) → is_of_app number app ≡ true → Names number app
names number app is = by (either (is_number number app.current) (is_number number app.previous) is)
  where
    by : (is_number number app.current ≡ true) ⊎ (is_number number app.previous ≡ true)
        → Names number app
    by (inl current) = inl (number_is number app.current current)
    by (inr previous) = inr (number_is number app.previous previous)

is_named : (number : ℕ) (app : AppState) → Names number app → is_of_app number app ≡ true
is_named number app (inl current) =
    or_left (is_number number app.current) (is_number number app.previous)
    (is_number_of number app.current current)
is_named number app (inr previous) =
    or_right (is_number number app.current) (is_number number app.previous)
    (is_number_of number app.previous previous)

-- ---- in use

module _ (number : ℕ) (apps : List AppState) (leases : List Lease) where
  abbrev leased : Lease → Bool
  leased lease = lease.view == number

  pub used_is : is_in_use number apps leases ≡ true → IsInUse number apps leases
  used_is is = by (either (list_any (is_of_app number) apps) (list_any leased leases) is)
    where
      by : (list_any (is_of_app number) apps ≡ true) ⊎ (list_any leased leases ≡ true)
          → IsInUse number apps leases
      by (inl some) =
          let app = passes_in (is_of_app number) apps some in
          inl (any_in (Names number) apps app.0 app.1 (names number app.0 app.2))
      by (inr some) =
          let lease = passes_in leased leases some in
          inr (any_in (λ (l : Lease). l.view ≡ number) leases lease.0 lease.1
          (eqb-true lease.0.view number lease.2))

  pub is_used : IsInUse number apps leases → is_in_use number apps leases ≡ true
  is_used (inl some) =
      let app = in_any (Names number) apps some in
      or_left (list_any (is_of_app number) apps) (list_any leased leases)
      (in_passes (is_of_app number) apps app.0 app.1 (is_named number app.0 app.2))
  is_used (inr some) =
      let lease = in_any (λ (l : Lease). l.view ≡ number) leases some in
      or_right (list_any (is_of_app number) apps) (list_any leased leases)
      (in_passes leased leases lease.0 lease.1 (eq-eqb lease.0.view number lease.2))
