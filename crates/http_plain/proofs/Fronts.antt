-- What the front of a message decides on.
use Rattle.std.proofs.Common.{◌≡◌, ◌≤◌, ◌+◌, ◌-◌, inl, inr, ℕ, false, cond, List, ◌++◌, length, take, drop, ltb, Option, Some, None, refl, ap, sym, ◌∙◌, arith, length-append}
use Rattle.std.specs.Option.{IsSome}
use Rattle.std.proofs.lemmas.List.{take-append-le, drop-append-le, take_all, append-nil}
use Rattle.std.proofs.Math.Seq.{take-append-add}
use Rattle.http_plain.specs.Head.{head_end, Whole, TooLong, Short, front_at, front_of, behind, behind_head, IsEnough}
use Rattle.http_plain.specs.declared.head.TheConstants.{HEAD_LIMIT}
use Rattle.http_plain.proofs.Ends.{end_bounds, end_longer}

some_end : (end : Option ℕ) → IsSome end → (n : ℕ) × (end ≡ Some n)
some_end None h = cc
some_end (Some n) h = (n, refl)

-- bytes within the limit are their own front
pub own_front : (bytes : List ℕ) → length bytes ≤ HEAD_LIMIT → front_of bytes ≡ front_at bytes (head_end bytes)
unfolding front_of
own_front bytes fits = ap (λ t. front_at bytes (head_end t)) (take_all HEAD_LIMIT bytes fits)

pub not_below : (m n : ℕ) → n ≤ m → ltb m n ≡ false
not_below m n h = grind arith

-- enough bytes for the limit
at_longer : (front left : List ℕ) (end : Option ℕ) → head_end front ≡ end → length front ≡ HEAD_LIMIT
    → front_at (front ++ left) end ≡ front_at front end
at_longer front left None e full =
    let more : ltb (length (front ++ left)) HEAD_LIMIT ≡ false = not_below (length (front ++ left)) HEAD_LIMIT (omega (arith, length-append front left)) in
    let same : ltb (length front) HEAD_LIMIT ≡ false = not_below (length front) HEAD_LIMIT (omega arith) in
    ap (λ t. cond t Short TooLong) (more ∙ sym same)
at_longer front left (Some n) e full = ap Whole (take-append-le n front left (end_bounds front n e).1)

at_limit : (front left : List ℕ) → length front ≡ HEAD_LIMIT
    → front_at (front ++ left) (head_end (take HEAD_LIMIT front)) ≡ front_at front (head_end (take HEAD_LIMIT front))
at_limit front left full =
    let whole : take HEAD_LIMIT front ≡ front = take_all HEAD_LIMIT front (omega arith) in
    ap (λ t. front_at (front ++ left) (head_end t)) whole
    ∙ at_longer front left (head_end front) refl full
    ∙ ap (λ t. front_at front (head_end t)) (sym whole)

full_longer : (front left : List ℕ) → length front ≡ HEAD_LIMIT → front_of (front ++ left) ≡ front_of front
unfolding front_of
full_longer front left full =
    let reaches : HEAD_LIMIT ≤ length front = omega arith in
    ap (λ t. front_at (front ++ left) (head_end t)) (take-append-le HEAD_LIMIT front left reaches)
    ∙ at_limit front left full

-- a front that holds the end of the head
pub ended_longer : (front left : List ℕ) (n : ℕ) → length front ≤ HEAD_LIMIT → head_end front ≡ Some n
    → front_of (front ++ left) ≡ Whole (take n front)
unfolding front_of
ended_longer front left n fits e =
    let room : HEAD_LIMIT ≡ length front + (HEAD_LIMIT - length front) = omega arith in
    let cut : take HEAD_LIMIT (front ++ left) ≡ front ++ take (HEAD_LIMIT - length front) left =
    ap (λ k. take k (front ++ left)) room ∙ take-append-add front left (HEAD_LIMIT - length front) in
    ap (λ t. front_at (front ++ left) (head_end t)) cut
    ∙ ap (front_at (front ++ left)) (end_longer front (take (HEAD_LIMIT - length front) left) n e)
    ∙ ap Whole (take-append-le n front left (end_bounds front n e).1)

pub ended_front : (front : List ℕ) (n : ℕ) → length front ≤ HEAD_LIMIT → head_end front ≡ Some n
    → front_of front ≡ Whole (take n front)
ended_front front n fits e = own_front front fits ∙ ap (front_at front) e

-- bytes that are enough decide on the head, whatever is left
pub front_longer : (front left : List ℕ) → IsEnough front left → front_of (front ++ left) ≡ front_of front
front_longer front left (inl none) = ap (λ t. front_of (front ++ t)) none ∙ ap front_of (append-nil front)
front_longer front left (inr (inl full)) = full_longer front left full
front_longer front left (inr (inr (fits, ended))) =
    let end = some_end (head_end front) ended in
    ended_longer front left end.0 fits end.1 ∙ sym (ended_front front end.0 fits end.1)

-- what stands behind the head is what the front has behind it, and what is left
pub behind_longer : (front left : List ℕ) (n : ℕ) → head_end front ≡ Some n
    → behind_head (front ++ left) ≡ drop n front ++ left
unfolding behind_head
behind_longer front left n e =
    ap (behind (front ++ left)) (end_longer front left n e)
    ∙ drop-append-le n front left (end_bounds front n e).1
