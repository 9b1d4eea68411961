-- A text that is lengthened step by step.
use Rattle.std.specs.Prelude.{◌≡◌, ℕ, List, ◌++◌}
use Rattle.std.proofs.Common.{◌∙◌, ap}
use Rattle.std.proofs.lemmas.List.{append_assoc}

-- two lengthenings are one
pub then : (a x y : List ℕ) {b c : List ℕ} → b ≡ a ++ x → c ≡ b ++ y → c ≡ a ++ (x ++ y)
then a x y p q = q ∙ ap (λ (l : List ℕ). l ++ y) p ∙ append_assoc a x y

-- what is added is known by another name
pub known : {T : Type 0} (f : T → List ℕ) (a : List ℕ) {b : List ℕ} {s t : T} → b ≡ a ++ f s → s ≡ t → b ≡ a ++ f t
known f a p q = p ∙ ap (λ x. a ++ f x) q
