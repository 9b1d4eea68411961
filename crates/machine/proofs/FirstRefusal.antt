-- The first refusal that is not passed.
use Rattle.std.proofs.Common.{◌≡◌, ◌∙◌, ◌++◌, inl, inr, sym, ℕ, zero, suc, List, [], ◌∷◌}
use Rattle.small_types.specs.declared.target.Target.{Target}
use Rattle.machine.specs.Rows.{AreExact, ChangeNothing, GivesAt, IsExact, Passes, PassesAll, Refusal, Refuses, LeavesNothingAt, exactly, exactly_with, leaving}
use Rattle.machine.specs.Unheard.{unheard}

-- ---- refusals that are no free choice

pub exactly-exact : {R S : Type 0} (when : Type 0) (reply : R) → IsExact (exactly {S = S} when reply)
exactly-exact when reply = record {
  settled = λ r gives passes. passes gives.0;
  one = λ a b first second. first.1 ∙ sym second.1;
}

-- where all that meets the condition has one reply
pub exactly_with-exact : {R S A : Type 0} (when : A → Type 0) (reply : A → R)
    → ((x y : A) → when x → when y → reply x ≡ reply y) → IsExact (exactly_with {S = S} when reply)
exactly_with-exact when reply alone = record {
  settled = λ r gives passes. passes gives.0 gives.1;
  one = λ a b first second. first.2 ∙ alone first.0 second.0 first.1 second.1 ∙ sym second.2;
}

-- where none that meets the condition is unheard
pub unheard_exact : (when : Target → Type 0) → ((target : Target) → when target → ⊥) → IsExact (unheard when)
unheard_exact when none = record {
  settled = λ r gives passes. passes gives.0 gives.2;
  one = λ a b first second. absurd (none first.0 first.2);
}

-- what it leaves has no part in that
pub leaving-exact : {R S : Type 0} (refusal : Refusal R S) (f : S → S) → IsExact refusal → IsExact (leaving refusal f)
leaving-exact refusal f exact = record { settled = exact.settled; one = exact.one }

-- ---- refusals in order

module _ {R S : Type 0} where
  -- the first k are passed, and the next one is given
  pub refused_at : (k : ℕ) (refusals : List (Refusal R S)) (old : S) (reply : R) (new : S)
      → Passes k refusals → GivesAt k refusals old reply new → Refuses refusals old reply new
  refused_at k [] old reply new passes at = absurd at
  refused_at zero (refusal ∷ refusals) old reply new passes at = inl at
  refused_at (suc k) (refusal ∷ refusals) old reply new passes at =
      inr (passes.0, refused_at k refusals old reply new passes.1 at)

  -- a refusal that is given stands at a place, and all before it are passed
  pub first_refused : (refusals : List (Refusal R S)) (old : S) (reply : R) (new : S)
      → Refuses refusals old reply new
      → (k : ℕ) × Passes k refusals × GivesAt k refusals old reply new
  first_refused [] old reply new refuses = absurd refuses
  first_refused (refusal ∷ refusals) old reply new (inl given) = (zero, tt, given)
  first_refused (refusal ∷ refusals) old reply new (inr later) =
      let at = first_refused refusals old reply new later.1 in
      (suc at.0, (later.0, at.1), at.2)

  -- two refusals that are given are one
  pub one_refuses : (refusals : List (Refusal R S)) (old : S) (a b : R) (x y : S)
      → AreExact refusals → Refuses refusals old a x → Refuses refusals old b y → a ≡ b
  one_refuses [] old a b x y exact first second = absurd first
  one_refuses (refusal ∷ refusals) old a b x y exact (inl first) (inl second) = exact.0.one a b first.0 second.0
  one_refuses (refusal ∷ refusals) old a b x y exact (inl first) (inr second) =
      absurd (exact.0.settled a first.0 second.0)
  one_refuses (refusal ∷ refusals) old a b x y exact (inr first) (inl second) =
      absurd (exact.0.settled b second.0 first.0)
  one_refuses (refusal ∷ refusals) old a b x y exact (inr first) (inr second) =
      one_refuses refusals old a b x y exact.1 first.1 second.1

  -- a refusal and none exclude each other
  pub none_refuses : (refusals : List (Refusal R S)) (old : S) (reply : R) (new : S)
      → AreExact refusals → PassesAll refusals → Refuses refusals old reply new → ⊥
  none_refuses [] old reply new exact passes refuses = refuses
  none_refuses (refusal ∷ refusals) old reply new exact passes (inl first) = exact.0.settled reply first.0 passes.0
  none_refuses (refusal ∷ refusals) old reply new exact passes (inr later) =
      none_refuses refusals old reply new exact.1 passes.1 later.1

  -- one that leaves everything as it was
  pub unchanged_at : (k : ℕ) (refusals : List (Refusal R S)) (old : S) (reply : R) (new : S)
      → LeavesNothingAt k refusals → GivesAt k refusals old reply new → new ≡ old
  unchanged_at k [] old reply new same at = absurd at
  unchanged_at zero (refusal ∷ refusals) old reply new same at = at.1 ∙ same old
  unchanged_at (suc k) (refusal ∷ refusals) old reply new same at = unchanged_at k refusals old reply new same at

  -- where none leaves anything, nothing is left
  pub unchanged : (refusals : List (Refusal R S)) (old : S) (reply : R) (new : S)
      → ChangeNothing refusals → Refuses refusals old reply new → new ≡ old
  unchanged [] old reply new same refuses = absurd refuses
  unchanged (refusal ∷ refusals) old reply new same (inl given) = given.1 ∙ same.0 old
  unchanged (refusal ∷ refusals) old reply new same (inr later) = unchanged refusals old reply new same.1 later.1

  -- ---- what the replies of refusals are

  -- each reply that one gives is so
  abbrev pub AllGive : (R → Type 0) → List (Refusal R S) → Type 0
  AllGive P [] = Unit {0}
  AllGive P (refusal ∷ refusals) = ((reply : R) → refusal.gives reply → P reply) × AllGive P refusals

  pub give_both : (P : R → Type 0) (xs ys : List (Refusal R S)) → AllGive P xs → AllGive P ys
      → AllGive P (xs ++ ys)
  give_both P [] ys first second = second
  give_both P (x ∷ xs) ys first second = (first.0, give_both P xs ys first.1 second)

  pub given_reply : (P : R → Type 0) (refusals : List (Refusal R S)) (old : S) (reply : R) (new : S)
      → AllGive P refusals → Refuses refusals old reply new → P reply
  given_reply P [] old reply new give refuses = absurd refuses
  given_reply P (refusal ∷ refusals) old reply new give (inl given) = give.0 reply given.0
  given_reply P (refusal ∷ refusals) old reply new give (inr later) =
      given_reply P refusals old reply new give.1 later.1
