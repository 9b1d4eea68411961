-- One entry more in a log.
use Rattle.std.proofs.Common.{◌≡◌, ◌⊎◌, inl, inr, ℕ, suc, set, ◌+◌, ◌-◌, ◌<◌, ◌≤◌, ◌^◌, List, [], ◌∷◌, ◌++◌, length, take, drop, refl, sym, ◌∙◌, ap, arith, append_assoc, length-append, length-take, length-drop}
use Rattle.std.proofs.lemmas.List.{append-nil, take_at, drop_at, drop-drop, drop-set-add, set_split, drop_all, length-set, take_rest}
use borrow.Rule.Slice.PartMut.{put_mid}
use Rattle.std.proofs.lemmas.List.Concat.{flat_map-append}
use Rattle.std.specs.List.{flat_map}
use Rattle.journal.specs.Layout.{size_bytes, sized, entry_of, log_of, AreSmall, IsLog}
use Rattle.journal.specs.Log.{entry_in}
use Rattle.journal.specs.Steps.{OpenAfter, IsBeforeOrAfter}

pub length-size_bytes : (n : ℕ) → length (size_bytes n) ≡ 4
unfolding size_bytes
length-size_bytes n = refl

pub log_of-push : (head : List ℕ) (changes : List (List ℕ)) (change : List ℕ) → log_of head (changes ++ change ∷ []) ≡ log_of head changes ++ entry_of change
log_of-push head changes change =
    ap (λ (l : List ℕ). head ++ l) (flat_map-append entry_of changes (change ∷ []) ∙ ap (λ (l : List ℕ). flat_map entry_of changes ++ l) (append-nil (entry_of change)))
    ∙ sym (append_assoc head (flat_map entry_of changes) (entry_of change))

pub small_push : (changes : List (List ℕ)) (change : List ℕ) → AreSmall changes → length change < 2 ^ 32 → AreSmall (changes ++ change ∷ [])
small_push [] change all small = (small, tt)
small_push (c ∷ changes) change all small = (all.0, small_push changes change all.1 small)

-- the tail of a change: its length, itself and a closed gate
pub opens : (head : List ℕ) (changes : List (List ℕ)) (change tail bytes : List ℕ) → AreSmall changes → length change < 2 ^ 32 → tail ≡ size_bytes (length change) ++ (change ++ 0 ∷ [])
    → OpenAfter (log_of head changes) tail bytes → IsLog head (changes ++ change ∷ []) bytes
opens head changes change tail bytes all small is is_open =
    let base = log_of head changes in
    let regroup : tail ++ is_open.rest ≡ sized change ++ 0 ∷ is_open.rest =
    ap (λ (l : List ℕ). l ++ is_open.rest) (is ∙ sym (append_assoc (size_bytes (length change)) change (0 ∷ [])))
    ∙ append_assoc (sized change) (0 ∷ []) is_open.rest in
    record {
      closed = record {
        gate = 0;
        rest = is_open.rest;
        shut = omega arith;
        split = is_open.split ∙ ap (λ (l : List ℕ). base ++ 1 ∷ l) regroup ∙ sym (append_assoc base (entry_of change) (0 ∷ is_open.rest)) ∙ ap (λ (l : List ℕ). l ++ 0 ∷ is_open.rest) (sym (log_of-push head changes change));
      };
      small = small_push changes change all small;
    }

pub either_log : (head : List ℕ) (changes : List (List ℕ)) (change tail bytes : List ℕ) → AreSmall changes → length change < 2 ^ 32 → tail ≡ size_bytes (length change) ++ (change ++ 0 ∷ [])
    → IsBeforeOrAfter (log_of head changes) tail bytes → IsLog head changes bytes ⊎ IsLog head (changes ++ change ∷ []) bytes
either_log head changes change tail bytes all small is (inl closed) = inl (record { closed = closed; small = all })
either_log head changes change tail bytes all small is (inr is_open) = inr (opens head changes change tail bytes all small is is_open)

pub length-entry_in : (piece : List ℕ) → 7 ≤ length piece → length (entry_in piece) ≡ length piece - 6
length-entry_in piece long = omega (arith, length-take (length piece - 6) (drop 5 piece), length-drop 5 piece)

pub length-log_of-push : (head : List ℕ) (changes : List (List ℕ)) (change : List ℕ) → length (log_of head (changes ++ change ∷ [])) ≡ length (log_of head changes) + 5 + length change
length-log_of-push head changes change =
    ap length (log_of-push head changes change) ∙ omega (arith, length-append (log_of head changes) (entry_of change), length-append (size_bytes (length change)) change, length-size_bytes (length change))

-- a piece after its length and its last byte are written
pub framed : (piece size : List ℕ) → 7 ≤ length piece → length size ≡ 4 → drop 1 (put_mid 1 4 (set piece (length piece - 1) 0) size) ≡ size ++ (entry_in piece ++ 0 ∷ [])
framed piece size long four =
    let shut = set piece (length piece - 1) 0 in
    let rest = drop 5 piece in
    let n = length piece - 6 in
    let one : length (take 1 shut) ≡ 1 = omega (arith, length-take 1 shut, length-set {A = ℕ} piece (length piece - 1) 0) in
    let last : length piece - 1 ≡ 5 + n = omega arith in
    let within : n < length rest = omega (arith, length-drop 5 piece) in
    let ends : drop (suc n) rest ≡ [] = drop_all (suc n) rest (omega (arith, length-drop 5 piece)) in
    drop_at (take 1 shut) (size ++ drop 4 (drop 1 shut)) 1 one
    ∙ ap (λ (l : List ℕ). size ++ l) (
    drop-drop 4 1 shut
    ∙ ap (λ (k : ℕ). drop 5 (set piece k 0)) last
    ∙ drop-set-add 5 piece n 0
    ∙ set_split rest n 0 within
    ∙ ap (λ (l : List ℕ). take n rest ++ 0 ∷ l) ends)

-- the change is as it was
pub entry_kept : (piece new : List ℕ) → 7 ≤ length piece → length new ≡ length piece → drop 1 new ≡ size_bytes (length piece - 6) ++ (entry_in piece ++ 0 ∷ []) → entry_in new ≡ entry_in piece
entry_kept piece new long same is =
    let behind : drop 5 new ≡ entry_in piece ++ 0 ∷ [] =
    sym (drop-drop 4 1 new) ∙ ap (drop 4) is ∙ drop_at (size_bytes (length piece - 6)) (entry_in piece ++ 0 ∷ []) 4 (length-size_bytes (length piece - 6)) in
    ap (λ (n : ℕ). take (n - 6) (drop 5 new)) same ∙ ap (take (length piece - 6)) behind ∙ take_at (entry_in piece) (0 ∷ []) (length piece - 6) (length-entry_in piece long)

-- what is written behind the gate
pub tail_is : (piece new : List ℕ) → 7 ≤ length piece → drop 1 new ≡ size_bytes (length piece - 6) ++ (entry_in piece ++ 0 ∷ []) → take (length new - 1) (drop 1 new) ≡ size_bytes (length (entry_in piece)) ++ (entry_in piece ++ 0 ∷ [])
tail_is piece new long is = take_rest new 1 ∙ is ∙ ap (λ (n : ℕ). size_bytes n ++ (entry_in piece ++ 0 ∷ [])) (sym (length-entry_in piece long))

pub tail_long : (piece new : List ℕ) → 7 ≤ length piece → drop 1 new ≡ size_bytes (length piece - 6) ++ (entry_in piece ++ 0 ∷ []) → length (take (length new - 1) (drop 1 new)) ≡ length piece - 1
tail_long piece new long is =
    ap length (tail_is piece new long is)
    ∙ omega (arith, length-append (size_bytes (length (entry_in piece))) (entry_in piece ++ 0 ∷ []), length-append (entry_in piece) (0 ∷ []), length-size_bytes (length (entry_in piece)), length-entry_in piece long)

pub end_is : (piece new : List ℕ) (end : ℕ) (head : List ℕ) (changes : List (List ℕ)) → 7 ≤ length piece → drop 1 new ≡ size_bytes (length piece - 6) ++ (entry_in piece ++ 0 ∷ []) → end ≡ length (log_of head changes)
    → end + (length piece - 1) ≡ length (log_of head (changes ++ entry_in piece ∷ []))
end_is piece new end head changes long is place =
    omega (arith, length-entry_in piece long, length-log_of-push head changes (entry_in piece))

pub entry_small : (piece : List ℕ) → 7 ≤ length piece → length piece ≤ 4294967301 → length (entry_in piece) < 2 ^ 32
entry_small piece long short = omega (arith, length-entry_in piece long)
