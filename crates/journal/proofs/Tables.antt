-- Tables in their piece.
use Rattle.std.proofs.Common.{◌≡◌, ℕ, suc, set, ◌+◌, ◌-◌, ◌<◌, ◌≤◌, List, [], ◌∷◌, ◌++◌, length, take, drop, refl, sym, ◌∙◌, ap, arith, length-append, length-take, length-drop}
use Rattle.std.proofs.lemmas.List.{append-nil, take_at, drop_at, drop-drop, drop-set-add, set_split, drop_all, take_rest}
use borrow.Rule.Slice.PartMut.{put_mid}
use Rattle.journal.specs.Layout.{long_bytes, half_head, log_of}
use Rattle.journal.specs.Log.{tables_in}

pub length-long_bytes : (n : ℕ) → length (long_bytes n) ≡ 8
unfolding long_bytes
length-long_bytes n = refl

pub length-tables_in : (piece : List ℕ) → 11 ≤ length piece → length (tables_in piece) ≡ length piece - 11
length-tables_in piece long = omega (arith, length-take (length piece - 11) (drop 10 piece), length-drop 10 piece)

-- a piece after its serial, its length and its last byte are written
pub framed_tables : (piece size : List ℕ) (serial : ℕ) → 11 ≤ length piece → length size ≡ 8 → drop 1 (put_mid 2 8 (set (set piece (length piece - 1) 0) 1 serial) size) ≡ serial ∷ (size ++ (tables_in piece ++ 0 ∷ []))
framed_tables [] size serial long eight = absurd (omega arith)
framed_tables (x ∷ []) size serial long eight = absurd (omega arith)
framed_tables (x ∷ y ∷ rest) size serial long eight =
    let n = length (x ∷ y ∷ rest) - 11 in
    let last : length (x ∷ y ∷ rest) - 1 ≡ suc (suc (8 + n)) = omega arith in
    let within : n < length (drop 8 rest) = omega (arith, length-drop 8 rest) in
    let ends : drop (suc n) (drop 8 rest) ≡ [] = drop_all (suc n) (drop 8 rest) (omega (arith, length-drop 8 rest)) in
    ap (λ (k : ℕ). drop 1 (put_mid 2 8 (set (set (x ∷ y ∷ rest) k 0) 1 serial) size)) last
    ∙ ap (λ (l : List ℕ). serial ∷ (size ++ l)) (drop-set-add 8 rest n 0 ∙ set_split (drop 8 rest) n 0 within ∙ ap (λ (l : List ℕ). take n (drop 8 rest) ++ 0 ∷ l) ends)

-- the tables are as they were
pub tables_kept : (piece new : List ℕ) (serial : ℕ) → 11 ≤ length piece → length new ≡ length piece → drop 1 new ≡ serial ∷ (long_bytes (length piece - 11) ++ (tables_in piece ++ 0 ∷ [])) → tables_in new ≡ tables_in piece
tables_kept piece new serial long same is =
    let front = serial ∷ long_bytes (length piece - 11) in
    let nine : length front ≡ 9 = omega (arith, length-long_bytes (length piece - 11)) in
    let behind : drop 10 new ≡ tables_in piece ++ 0 ∷ [] =
    sym (drop-drop 9 1 new) ∙ ap (drop 9) is ∙ drop_at front (tables_in piece ++ 0 ∷ []) 9 nine in
    ap (λ (n : ℕ). take (n - 11) (drop 10 new)) same ∙ ap (take (length piece - 11)) behind ∙ take_at (tables_in piece) (0 ∷ []) (length piece - 11) (length-tables_in piece long)

-- what is written behind the gate
pub tables_tail : (piece new : List ℕ) (serial : ℕ) → 11 ≤ length piece → drop 1 new ≡ serial ∷ (long_bytes (length piece - 11) ++ (tables_in piece ++ 0 ∷ []))
    → take (length new - 1) (drop 1 new) ≡ serial ∷ (long_bytes (length (tables_in piece)) ++ (tables_in piece ++ 0 ∷ []))
tables_tail piece new serial long is = take_rest new 1 ∙ is ∙ ap (λ (n : ℕ). serial ∷ (long_bytes n ++ (tables_in piece ++ 0 ∷ []))) (sym (length-tables_in piece long))

pub tables_long : (piece new : List ℕ) (serial : ℕ) → 11 ≤ length piece → drop 1 new ≡ serial ∷ (long_bytes (length piece - 11) ++ (tables_in piece ++ 0 ∷ [])) → length (take (length new - 1) (drop 1 new)) ≡ length piece - 1
tables_long piece new serial long is =
    ap length (tables_tail piece new serial long is)
    ∙ omega (arith, length-append (long_bytes (length (tables_in piece))) (tables_in piece ++ 0 ∷ []), length-append (tables_in piece) (0 ∷ []), length-long_bytes (length (tables_in piece)), length-tables_in piece long)

-- where the first entry behind them goes
pub new_end : (serial : ℕ) (piece : List ℕ) → 11 ≤ length piece → length piece - 1 ≡ length (log_of (half_head serial (tables_in piece)) [])
new_end serial piece long =
    let size = length-append (long_bytes (length (tables_in piece))) (tables_in piece) in
    let whole = ap length (append-nil (half_head serial (tables_in piece))) in
    omega (arith, whole, size, length-long_bytes (length (tables_in piece)), length-tables_in piece long)
