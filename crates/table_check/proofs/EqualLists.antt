-- What a test of a list tells of an equal one.
use Rattle.std.proofs.Common.{◌≡◌, ◌↔◌, Bool, List, All, IsTrue, subst}

pub told_of : {X : Type 0} (P : X → Type 0) (xs ys : List X) (answer : Bool) → xs ≡ ys
    → IsTrue answer ↔ All P xs → IsTrue answer ↔ All P ys
told_of {X} P xs ys answer same told =
    subst (λ (zs : List X). IsTrue answer ↔ All P zs) same told
