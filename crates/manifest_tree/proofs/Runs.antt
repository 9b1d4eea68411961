-- The bytes of a class at the front, and what stands behind them.
use Rattle.std.proofs.Common.{◌≡◌, ℕ, ◌-◌, ◌≤◌, Bool, true, false, cond, List, [], ◌∷◌, ◌++◌, length, take, refl, sym, ap, ◌∙◌, arith, length-append}
use Rattle.std.proofs.lemmas.List.{take_at}
use Rattle.manifest_tree.specs.Lexis.{front, past}

pub front-past : (p : ℕ → Bool) (bytes : List ℕ) → front p bytes ++ past p bytes ≡ bytes
front-past p [] = refl
front-past p (c ∷ cs) =
    elim (p c) as (λ b. cond b (c ∷ front p cs) [] ++ cond b (past p cs) (c ∷ cs) ≡ c ∷ cs) [
      | true ↦ ap (λ (l : List ℕ). c ∷ l) (front-past p cs)
      | false ↦ refl
    ]

pub past_shorter : (p : ℕ → Bool) (bytes : List ℕ) → length (past p bytes) ≤ length bytes
past_shorter p bytes = omega (arith, ap length (front-past p bytes), length-append (front p bytes) (past p bytes))

pub take_front : (p : ℕ → Bool) (bytes rest : List ℕ) → rest ≡ past p bytes → take (length bytes - length rest) bytes ≡ front p bytes
take_front p bytes rest is =
    let parts = front-past p bytes in
    let n : length (front p bytes) ≡ length bytes - length rest = omega (arith, ap length parts, ap length is, length-append (front p bytes) (past p bytes)) in
    ap (take (length bytes - length rest)) (sym parts) ∙ take_at (front p bytes) (past p bytes) (length bytes - length rest) n
