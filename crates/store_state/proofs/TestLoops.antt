-- Tests of one element after another.
use Rattle.std.proofs.Common.{◌≡◌, ◌∙◌, ◌<◌, ◌≤◌, ◌+◌, ◌&&◌, ◌↔◌, ◌⊎◌, inl, inr, ℕ, Bool, true, false, List, length, get_or, take, All, AllPairs, IsTrue, arith, subst, sym, refl, Contains}
use Rattle.std.specs.Prelude.{◌≢◌}
use Rattle.std.proofs.lemmas.Bool.{cases_lt}
use Rattle.std.proofs.lemmas.List.{get_or-take, get_or_default, length-take}
use Rattle.machine.specs.Views.{ContentKey}
use Rattle.store_state.specs.ContentKeys.{Agree}

module _ {X : Type 0} (P : X → Type 0) (xs : List X) (i : ℕ) where
  module _ (x : X) (is : x ≡ get_or xs i x) (within : i < length xs) where
    -- one does not pass
    pub all_refuted : ¬ P x → All P xs → ⊥
    all_refuted unlike all = unlike (subst P (sym is) (all i x within))

    at : (k : ℕ) (d : X) → k < i + 1 → P x → All P (take i xs) → k < i ⊎ i ≤ k → P (get_or xs k d)
    at k d less passes before (inl front) = subst P (get_or-take i xs k d front) (before k d (omega (arith, length-take i xs)))
    at k d less passes before (inr last) = subst (λ (n : ℕ). P (get_or xs n d)) (omega arith) (subst P (is ∙ get_or_default xs i x d within) passes)

    -- one more passes
    pub all_more : P x → All P (take i xs) → All P (take (i + 1) xs)
    all_more passes before = λ k d less. (let few : k < i + 1 = omega (arith, length-take (i + 1) xs) in subst P (sym (get_or-take (i + 1) xs k d few)) (at k d few passes before (cases_lt k i)))

  -- all did
  pub all_ended : length xs ≤ i → All P (take i xs) → All P xs
  all_ended long all = λ k d within. (let few : k < i = omega arith in subst P (get_or-take i xs k d few) (all k d (omega (arith, length-take i xs))))

-- ---- four tests

both : (a b : Bool) → IsTrue (a && b) → IsTrue a × IsTrue b
both true true t = (refl, refl)
both true false t = absurd cc
both false b t = absurd cc

from_both : (a b : Bool) → IsTrue a → IsTrue b → IsTrue (a && b)
from_both true true s t = refl
from_both true false s t = absurd cc
from_both false b s t = absurd cc

pub agree_is : (held standing brought : List ContentKey) (once each only lacking : Bool)
    → IsTrue once ↔ AllPairs (λ (a b : ContentKey). a ≢ b) brought
    → IsTrue each ↔ All (λ key. Contains held key ⊎ Contains brought key) standing
    → IsTrue only ↔ All (λ key. Contains standing key) brought
    → IsTrue lacking ↔ All (λ key. ¬ Contains held key) brought
    → IsTrue (once && each && only && lacking) ↔ Agree held standing brought
agree_is held standing brought once each only lacking a b c d = (
  λ all.
      let last = both (once && each && only) lacking all in
      let third = both (once && each) only last.0 in
      let two = both once each third.0 in
      record { once = a.0 two.0; each = b.0 two.1; only = c.0 third.1; lacking = d.0 last.1 },
  λ are. from_both (once && each && only) lacking (from_both (once && each) only (from_both once each (a.1 are.once) (b.1 are.each)) (c.1 are.only)) (d.1 are.lacking),
)
