-- Refusals that are decided one after another.
use Rattle.std.proofs.Common.{◌≡◌, ◌∙◌, ◌⊎◌, ◌<◌, ◌≤◌, inl, inr, refl, sym, Bool, true, false, eqb, eqb-true, eq-eqb, ℕ, List, [], ◌∷◌, Option, Some, None, arith}
use Rattle.std.specs.Ordering.{is_lt}
use Rattle.std.proofs.lemmas.Bool.{cases_lt, false≢true}
use Rattle.identity.specs.declared.version.Version.{Version}
use Rattle.identity.specs.Version.{IsBelow, version_cmp}
use Rattle.identity.proofs.VersionLemmas.{IsBelow-from_cmp, cmp_from_IsBelow}
use Rattle.machine.specs.Rows.{PassesAll, Refusal, Refuses, exactly, exactly_with}

-- ---- lists

-- one is given, with such a reply, or it is passed
pub data IsDecided {R S : Type 0} (Other : R → Type 0) (refusal : Refusal R S) : Type 0 where
  IsGiven : (reply : R) → refusal.gives reply → Other reply → IsDecided Other refusal
  IsPassed : refusal.otherwise → IsDecided Other refusal

module _ {R S : Type 0} (Other : R → Type 0) where
  abbrev pub AreDecided : List (Refusal R S) → Type 0
  AreDecided [] = Unit {0}
  AreDecided (refusal ∷ refusals) = IsDecided Other refusal × AreDecided refusals

  -- what is found out of them
  abbrev pub Found : List (Refusal R S) → S → Type 0
  Found refusals old =
      ((reply : R) × (new : S) × Refuses refusals old reply new × Other reply) ⊎ PassesAll refusals

  -- one of them is given, or all are passed
  pub decide : (refusals : List (Refusal R S)) (old : S) → AreDecided refusals
      → Found refusals old
  decide [] old each = inr tt
  decide (refusal ∷ refusals) old each = by each.0 (decide refusals old each.1)
    where
      behind : refusal.otherwise → Found refusals old → Found (refusal ∷ refusals) old
      behind passed (inl given) = inl (given.0, given.1, inr (passed, given.2), given.3)
      behind passed (inr passes) = inr (passed, passes)

      by : IsDecided Other refusal → Found refusals old → Found (refusal ∷ refusals) old
      by (IsGiven reply gives other) rest =
          inl (reply, refusal.leaves old, inl (gives, refl), other)
      by (IsPassed passed) rest = behind passed rest

  -- by whether the condition holds
  pub when_decided : (when : Type 0) (reply : R) → Other reply → when ⊎ ¬ when
      → IsDecided {S = S} Other (exactly when reply)
  when_decided when reply other (inl is) = IsGiven reply (is, refl) other
  when_decided when reply other (inr not) = IsPassed not

  pub with_decided : {A : Type 0} (when : A → Type 0) (reply : A → R)
      → ((x : A) → Other (reply x)) → ((x : A) × when x) ⊎ ((x : A) → when x → ⊥)
      → IsDecided {S = S} Other (exactly_with when reply)
  with_decided when reply other (inl some) =
      IsGiven (reply some.0) (some.0, some.1, refl) (other some.0)
  with_decided when reply other (inr none) = IsPassed none

-- ---- numbers, versions and what may be there

pub less_or_not : (a b : ℕ) → (a < b) ⊎ ¬ (a < b)
less_or_not a b = by (cases_lt a b)
  where
    clash : b ≤ a → ¬ (a < b)
    clash le lt = absurd (omega (arith, le, lt))

    by : (a < b) ⊎ (b ≤ a) → (a < b) ⊎ ¬ (a < b)
    by (inl lt) = inl lt
    by (inr le) = inr (clash le)

pub most_or_not : (a b : ℕ) → (a ≤ b) ⊎ ¬ (a ≤ b)
most_or_not a b = by (cases_lt b a)
  where
    clash : b < a → ¬ (a ≤ b)
    clash lt le = absurd (omega (arith, le, lt))

    by : (b < a) ⊎ (a ≤ b) → (a ≤ b) ⊎ ¬ (a ≤ b)
    by (inl lt) = inr (clash lt)
    by (inr le) = inl le

pub equal_or_not : (a b : ℕ) → (a ≡ b) ⊎ ¬ (a ≡ b)
equal_or_not a b = by (eqb a b) refl
  where
    by : (t : Bool) → eqb a b ≡ t → (a ≡ b) ⊎ ¬ (a ≡ b)
    by true is = inl (eqb-true a b is)
    by false is = inr (λ e. absurd (false≢true (sym is ∙ eq-eqb a b e)))

pub below_or_not : (a b : Version) → IsBelow a b ⊎ ¬ IsBelow a b
below_or_not a b = by (is_lt (version_cmp a b)) refl
  where
    by : (t : Bool) → is_lt (version_cmp a b) ≡ t → IsBelow a b ⊎ ¬ IsBelow a b
    by true is = inl (IsBelow-from_cmp a b is)
    by false is = inr (λ below. absurd (false≢true (sym is ∙ cmp_from_IsBelow a b below)))

-- what is there, or that nothing is
pub some_or_none : {X : Type 0} (o : Option X) → ((x : X) × (o ≡ Some x)) ⊎ (o ≡ None)
some_or_none None = inr refl
some_or_none (Some x) = inl (x, refl)
