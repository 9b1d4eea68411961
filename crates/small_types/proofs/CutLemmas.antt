-- Cutting a text at its separators.
use Rattle.std.proofs.Common.{◌≡◌, ℕ, ◌+◌, ◌-◌, ◌<◌, ◌≤◌, Bool, cond, not, ◌==◌, nat_lt, List, [], ◌∷◌, length, take, drop, position, Some, None, refl, ap, ◌∙◌, inl, inr, arith}
use Rattle.std.specs.List.{slice_split, position_or_len}
use Rattle.std.proofs.lemmas.Bool.{cases_Bool, cond-true, cond-false, ltb-true, ltb-false}
use Rattle.std.proofs.lemmas.List.{take_rest}
use Rattle.std.proofs.lemmas.List.Splits.{slice_split_first, slice_split-cons_no, length-slice_split}
use Rattle.small_types.specs.Cuts.{parts_between}

-- where no separator stands, all is one part
pub whole : (p : ℕ → Bool) (xs : List ℕ) → length xs ≤ position_or_len p xs → slice_split p xs ≡ xs ∷ []
whole p [] past = refl
whole p (x ∷ xs) past = elim (cases_Bool (p x)) [
  | inl passes ↦
      let first : position_or_len p (x ∷ xs) ≡ 0 = ap (λ (b : Bool). cond (not b) (1 + position_or_len p xs) 0) passes in
      absurd (omega arith)
  | inr fails ↦
      let later : position_or_len p (x ∷ xs) ≡ 1 + position_or_len p xs = ap (λ (b : Bool). cond (not b) (1 + position_or_len p xs) 0) fails in
      let rest = whole p xs (omega arith) in
      rw (slice_split-cons_no p x xs fails, rest) refl
]

pub cut_none : (separator : ℕ) (bytes : List ℕ) → None ≡ position (λ b. b == separator) bytes → parts_between separator bytes ≡ bytes ∷ []
cut_none separator bytes none = elim (cases_Bool (nat_lt (position_or_len (λ b. b == separator) bytes) (length bytes))) [
  | inl inside ↦ absurd (let found : None ≡ Some (position_or_len (λ b. b == separator) bytes) = none ∙ cond-true _ _ _ inside in cc)
  | inr past ↦ whole (λ b. b == separator) bytes (ltb-false _ _ past)
]

pub cut_found : (separator : ℕ) (bytes : List ℕ) (place : ℕ) → Some place ≡ position (λ b. b == separator) bytes → parts_between separator bytes ≡ take place bytes ∷ parts_between separator (take (length bytes - (place + 1)) (drop (place + 1) bytes))
cut_found separator bytes place found = elim (cases_Bool (nat_lt (position_or_len (λ b. b == separator) bytes) (length bytes))) [
  | inl inside ↦
      let same : Some place ≡ Some (position_or_len (λ b. b == separator) bytes) = found ∙ cond-true _ _ _ inside in
      let at : place ≡ position_or_len (λ b. b == separator) bytes = cc in
      rw (take_rest bytes (place + 1), at) (slice_split_first (λ b. b == separator) bytes 0 (ltb-true _ _ inside))
  | inr past ↦ absurd (let none : Some place ≡ None = found ∙ cond-false _ _ _ past in cc)
]

-- a text has a part or more
pub some_part : (separator : ℕ) (bytes : List ℕ) → 0 < length (parts_between separator bytes)
some_part separator bytes = omega (arith, length-slice_split (λ b. b == separator) bytes)
