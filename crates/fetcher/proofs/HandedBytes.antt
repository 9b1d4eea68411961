-- How many bytes calls hand to a basket.
use Rattle.std.proofs.Common.{◌≡◌, ◌∙◌, ℕ, ◌+◌, ◌*◌, ◌<◌, ◌≤◌, List, [], ◌∷◌, ◌++◌, length, ap, arith, subst}
use Rattle.std.proofs.lemmas.List.{length-append}
use Rattle.std.proofs.Math.Nat.{mul-le-mul_left}
use Rattle.small_types.specs.declared.target.Target.{Target}
use Rattle.links.specs.Basket.{Turns}

module _ {B : Type 0} (turns_to : ℕ → B → B → Type 0) where
  pub handed_none : ((basket : B) → turns_to 0 basket basket) → (most : ℕ) (basket : B)
      → Turns turns_to most basket basket
  handed_none same most basket = record { handed = 0; within = omega arith; turns = same basket }

  pub handed_within : (m n : ℕ) (a b : B) → Turns turns_to m a b → m ≤ n → Turns turns_to n a b
  handed_within m n a b one within = record {
    handed = one.handed;
    within = omega (arith, one.within, within);
    turns = one.turns;
  }

  module _ (turns_on : (m n : ℕ) (a b c : B) → turns_to m a b → turns_to n b c → turns_to (m + n) a c) where
    pub handed_then : (m n : ℕ) (a b c : B) → Turns turns_to m a b → Turns turns_to n b c
        → Turns turns_to (m + n) a c
    handed_then m n a b c one two = record {
      handed = one.handed + two.handed;
      within = omega (arith, one.within, two.within);
      turns = turns_on one.handed two.handed a b c one.turns two.turns;
    }

    -- it was emptied first
    pub handed_behind : (most : ℕ) (a b c : B) → turns_to 0 a b → Turns turns_to most b c
        → Turns turns_to most a c
    handed_behind most a b c empty one = record {
      handed = 0 + one.handed;
      within = omega (arith, one.within);
      turns = turns_on 0 one.handed a b c empty one.turns;
    }

    pub handed_rest : (m n most : ℕ) (a b c : B) → Turns turns_to m a b → Turns turns_to n b c
        → m + n ≤ most → Turns turns_to most a c
    handed_rest m n most a b c one two within =
        handed_within (m + n) most a c (handed_then m n a b c one two) within

    -- so many bytes of each link, and of one link more
    pub handed_next : (size place : ℕ) (a b c : B) → Turns turns_to (size * place) a b
        → Turns turns_to size b c → Turns turns_to (size * (place + 1)) a c
    handed_next size place a b c one two =
        let sum : size * place + size ≡ size * (place + 1) = grind arith in
        subst (λ (n : ℕ). Turns turns_to n a c) sum (handed_then (size * place) size a b c one two)

    pub handed_last : (size place sources : ℕ) (a b c : B) → place < sources
        → Turns turns_to (size * place) a b → Turns turns_to size b c
        → Turns turns_to (size * sources) a c
    handed_last size place sources a b c less one two =
        let next : Turns turns_to (size * (place + 1)) a c = handed_next size place a b c one two in
        handed_within (size * (place + 1)) (size * sources) a c next (mul-le-mul_left size (omega arith))

  -- so many bytes of each of the first links are at most those of all
  pub handed_all : (size place sources : ℕ) (a b : B) → place ≤ sources
      → Turns turns_to (size * place) a b → Turns turns_to (size * sources) a b
  handed_all size place sources a b within one =
      handed_within (size * place) (size * sources) a b one (mul-le-mul_left size within)

-- a target that was asked for makes the list longer
pub not_same : (target : Target) (old new : List Target) → new ≡ old ++ target ∷ [] → new ≡ old → ⊥
not_same target old new asked same =
    let long : length new ≡ length old + 1 = ap length asked ∙ length-append old (target ∷ []) in
    let short : length new ≡ length old = ap length same in
    omega (arith, long, short)
