-- What a write in place makes of bytes that were lengthened with zeros.
use Rattle.std.proofs.Common.{◌≡◌, ◌⊎◌, inl, inr, ℕ, ◌+◌, ◌-◌, ◌≤◌, List, ◌++◌, length, take, drop, replicate, sym, ◌∙◌, ap, arith, length-append}
use Rattle.std.proofs.lemmas.List.{append_assoc, append-nil, take_all, drop_all, take-append-le, take-replicate, length-replicate}
use Rattle.std.proofs.Math.Seq.{take-append-add}
use Rattle.small_types.specs.Bytes.{put}

front : (old : List ℕ) (place n : ℕ) → (place ≤ length old) ⊎ (length old ≤ place) → take place (old ++ replicate (place + n - length old) 0) ≡ take place old ++ replicate (place - length old) 0
front old place n (inl within) =
    let none : place - length old ≡ 0 = omega arith in
    take-append-le place old (replicate (place + n - length old) 0) within ∙ sym (append-nil (take place old)) ∙ ap (λ (k : ℕ). take place old ++ replicate k 0) (sym none)
front old place n (inr past) =
    let there : place ≡ length old + (place - length old) = omega arith in
    ap (λ (k : ℕ). take k (old ++ replicate (place + n - length old) 0)) there
    ∙ take-append-add old (replicate (place + n - length old) 0) (place - length old)
    ∙ ap (λ (l : List ℕ). old ++ l) (take-replicate (place - length old) (place + n - length old) 0 (omega arith))
    ∙ ap (λ (l : List ℕ). l ++ replicate (place - length old) 0) (sym (take_all place old past))

behind : (old : List ℕ) (end : ℕ) → (end ≤ length old) ⊎ (length old ≤ end) → drop end (old ++ replicate (end - length old) 0) ≡ drop end old
behind old end (inl within) =
    let none : end - length old ≡ 0 = omega arith in
    ap (λ (k : ℕ). drop end (old ++ replicate k 0)) none ∙ ap (drop end) (append-nil old)
behind old end (inr past) =
    drop_all end (old ++ replicate (end - length old) 0) (omega (arith, length-append old (replicate (end - length old) 0), length-replicate {A = ℕ} (end - length old) 0))
    ∙ sym (drop_all end old past)

either : (a b : ℕ) → (a ≤ b) ⊎ (b ≤ a)
either a b = grind arith

pub put_grown : (old grown made piece : List ℕ) (place : ℕ) → grown ≡ old ++ replicate (place + length piece - length old) 0
    → made ≡ take place grown ++ (piece ++ drop (place + length piece) grown) → made ≡ put place piece old
put_grown old grown made piece place is_grown is_made =
    let before = ap (take place) is_grown ∙ front old place (length piece) (either place (length old)) in
    let after = ap (drop (place + length piece)) is_grown ∙ behind old (place + length piece) (either (place + length piece) (length old)) in
    is_made ∙ ap (λ (l : List ℕ). l ++ (piece ++ drop (place + length piece) grown)) before
    ∙ ap (λ (l : List ℕ). (take place old ++ replicate (place - length old) 0) ++ (piece ++ l)) after
    ∙ append_assoc (take place old) (replicate (place - length old) 0) (piece ++ drop (place + length piece) old)
