-- A list of two.
use Rattle.std.proofs.Common.{◌≡◌, ℕ, List, [], ◌∷◌, length, get_or, sym, ◌∙◌, arith}

-- a list of length 2 is its two items
pub two_of : (xs : List (List ℕ)) (x y a b : List ℕ) → length xs ≡ 2 → x ≡ get_or xs 0 x
    → y ≡ get_or xs 1 y → x ≡ a → y ≡ b → xs ≡ a ∷ b ∷ []
two_of [] x y a b so at at_next is is_next = absurd (cc (so))
two_of (p ∷ []) x y a b so at at_next is is_next = absurd (cc (so))
two_of (p ∷ q ∷ []) x y a b so at at_next is is_next =
    let first : p ≡ a = sym at ∙ is in
    let second : q ≡ b = sym at_next ∙ is_next in
    cc (first, second)
two_of (p ∷ q ∷ r ∷ rs) x y a b so at at_next is is_next = absurd (omega (arith, so))
