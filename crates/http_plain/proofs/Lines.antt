-- Where the head ends that lines make.
use Rattle.std.proofs.Common.{◌≡◌, ◌+◌, ◌&&◌, not, ℕ, suc, Bool, true, false, List, [], ◌∷◌, ◌++◌, length, take, eqb, nat_eq, Some, refl, ap, ◌∙◌, arith, append_assoc, length-append}
use Rattle.std.specs.List.{flat_map, list_all}
use lib.Pointwise.{pointwise}
use Rattle.httparse.specs.Ascii.{crlf_bytes}
use Rattle.http_plain.specs.Head.{head_end}
use Rattle.http_plain.specs.Served.{head_text}
use Rattle.http_plain.proofs.Ends.{later, past, here, later_zero, later_later}

-- no carriage return
abbrev pub is_clean : List ℕ → Bool
is_clean line = list_all (λ b. not (eqb 13 b)) line

-- a byte or more, and no carriage return
abbrev pub is_line : List ℕ → Bool
is_line [] = false
is_line (b ∷ line) = not (eqb 13 b) && is_clean line

pub both : (s t : Bool) → (s && t) ≡ true → (s ≡ true) × (t ≡ true)
both true t e = (refl, e)
both false t e = cc

other : (t : Bool) → not t ≡ true → t ≡ false
other true e = cc
other false e = refl

-- a byte that begins no mark is passed over
pub pass_byte : (b : ℕ) (rest : List ℕ) → not (eqb 13 b) ≡ true → head_end (b ∷ rest) ≡ later 1 (head_end rest)
pass_byte b rest e = past b rest (ap (λ t. t && pointwise nat_eq (10 ∷ 13 ∷ 10 ∷ []) (take 3 rest)) (other (eqb 13 b) e))

one_more : (n : ℕ) → n + 1 ≡ suc n
one_more n = omega arith

pub pass : (line rest : List ℕ) → is_clean line ≡ true → head_end (line ++ rest) ≡ later (length line) (head_end rest)
pass [] rest clean = later_zero (head_end rest)
pass (b ∷ line) rest clean =
    let parts = both (not (eqb 13 b)) (is_clean line) clean in
    pass_byte b (line ++ rest) parts.0
    ∙ ap (later 1) (pass line rest parts.1)
    ∙ later_later (length line) (head_end rest)
    ∙ ap (λ n. later n (head_end rest)) (one_more (length line))

-- a line end before another line
pass_end : (c : ℕ) (rest : List ℕ) → not (eqb 13 c) ≡ true → head_end (13 ∷ 10 ∷ c ∷ rest) ≡ later 2 (head_end (c ∷ rest))
pass_end c rest e =
    past 13 (10 ∷ c ∷ rest) (ap (λ t. t && pointwise nat_eq (10 ∷ []) (take 1 rest)) (other (eqb 13 c) e))
    ∙ ap (later 1) (pass_byte 10 (c ∷ rest) refl)
    ∙ later_later 1 (head_end (c ∷ rest))

abbrev pub lines_text : List (List ℕ) → List ℕ
lines_text lines = flat_map (λ line. line ++ crlf_bytes) lines

split_line : (line behind end : List ℕ) → ((line ++ crlf_bytes) ++ behind) ++ end ≡ line ++ (13 ∷ 10 ∷ (behind ++ end))
split_line line behind end = append_assoc (line ++ crlf_bytes) behind end ∙ append_assoc line crlf_bytes (behind ++ end)

whole_length : (line behind : List ℕ) → (2 + (length behind + 2)) + length line + 2 ≡ 2 + (length ((line ++ crlf_bytes) ++ behind) + 2)
whole_length line behind = omega (arith, length-append (line ++ crlf_bytes) behind, length-append line crlf_bytes)

split_head : (first behind rest : List ℕ) → (((first ++ crlf_bytes) ++ behind) ++ crlf_bytes) ++ rest ≡ first ++ (13 ∷ 10 ∷ (behind ++ (13 ∷ 10 ∷ rest)))
split_head first behind rest =
    append_assoc ((first ++ crlf_bytes) ++ behind) crlf_bytes rest ∙ split_line first behind (13 ∷ 10 ∷ rest)

pub head_length : (first behind : List ℕ) → (2 + (length behind + 2)) + length first ≡ length (((first ++ crlf_bytes) ++ behind) ++ crlf_bytes)
head_length first behind =
    omega (arith, length-append ((first ++ crlf_bytes) ++ behind) crlf_bytes, length-append (first ++ crlf_bytes) behind, length-append first crlf_bytes)

-- from the end of a line on
from_end : (lines : List (List ℕ)) (rest : List ℕ) → list_all is_line lines ≡ true
    → head_end (13 ∷ 10 ∷ (lines_text lines ++ (13 ∷ 10 ∷ rest))) ≡ Some (2 + (length (lines_text lines) + 2))
from_end [] rest e = here 13 (10 ∷ 13 ∷ 10 ∷ rest) refl
from_end ([] ∷ lines) rest e = cc
from_end ((c ∷ line) ∷ lines) rest e =
    let parts = both (is_line (c ∷ line)) (list_all is_line lines) e in
    let first = both (not (eqb 13 c)) (is_clean line) parts.0 in
    let behind : List ℕ = lines_text lines ++ (13 ∷ 10 ∷ rest) in
    ap (λ text. head_end (13 ∷ 10 ∷ text)) (split_line (c ∷ line) (lines_text lines) (13 ∷ 10 ∷ rest))
    ∙ pass_end c (line ++ (13 ∷ 10 ∷ behind)) first.0
    ∙ ap (later 2) (pass (c ∷ line) (13 ∷ 10 ∷ behind) parts.0)
    ∙ ap (λ end. later 2 (later (length (c ∷ line)) end)) (from_end lines rest parts.1)
    ∙ ap Some (whole_length (c ∷ line) (lines_text lines))

-- lines with an empty one behind them are a head, which ends there
pub head_ends : (first : List ℕ) (lines : List (List ℕ)) (rest : List ℕ) → is_clean first ≡ true → list_all is_line lines ≡ true
    → head_end (head_text (first ∷ lines) ++ rest) ≡ Some (length (head_text (first ∷ lines)))
head_ends first lines rest clean e =
    ap head_end (split_head first (lines_text lines) rest)
    ∙ pass first (13 ∷ 10 ∷ (lines_text lines ++ (13 ∷ 10 ∷ rest))) clean
    ∙ ap (later (length first)) (from_end lines rest e)
    ∙ ap Some (head_length first (lines_text lines))
