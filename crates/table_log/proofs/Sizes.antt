-- Pieces that were written whole.
use Rattle.std.proofs.Common.{◌≡◌, ◌++◌, ◌∙◌, ℕ, List, [], length, take, drop, ap, arith}
use Rattle.std.proofs.lemmas.Grind.{common_steps}
use Rattle.std.proofs.lemmas.List.{append-nil, take_all}

-- a piece that was written whole
pub whole_piece : (n : ℕ) (piece before : List ℕ) → length piece ≡ length before → n ≡ length before → take n (piece ++ drop (length piece) before) ≡ piece
whole_piece n piece before same is =
    let none : drop (length piece) before ≡ [] = grind (arith, common_steps) in
    ap (λ (l : List ℕ). take n (piece ++ l)) none ∙ ap (take n) (append-nil piece) ∙ take_all n piece (omega arith)
