-- The head block of a journal.
use Rattle.std.proofs.Common.{◌≡◌, ℕ, ◌+◌, ◌-◌, List, [], ◌∷◌, ◌++◌, length, get_or, take, replicate, sym, ◌∙◌, ap, subst, arith, append_assoc, length-append}
use Rattle.std.proofs.lemmas.List.{take_all, length-replicate}
use Rattle.std.proofs.lemmas.Nat.{from_be_bytes-to_be_bytes_8}
use Rattle.std.specs.Int.{to_be_bytes, from_be_bytes, w64}
use Rattle.journal.specs.Layout.{zeros, head_front, head_with, head_of, AreLimits}

pub length-zeros : (n : ℕ) → length (zeros n) ≡ n
unfolding zeros
length-zeros n = length-replicate {A = ℕ} n 0

pub zeros_behind : (old new : List ℕ) (n m count : ℕ) → n ≡ length old → m ≡ length old → new ≡ take (n + count) old ++ replicate (n + count - m) 0 → new ≡ old ++ zeros count
unfolding zeros
zeros_behind old new n m count is_n is_m is =
    let more : n + count - m ≡ count = omega arith in
    is ∙ ap (λ (l : List ℕ). l ++ replicate (n + count - m) 0) (take_all (n + count) old (omega arith)) ∙ ap (λ (k : ℕ). old ++ replicate k 0) more

pub length-head_front : (blocks half : ℕ) → length (head_front blocks half) ≡ 64
unfolding head_front
length-head_front blocks half = omega (arith, length-zeros 40)

pub length-head_of : (blocks half : ℕ) → length (head_of blocks half) ≡ 4096
unfolding head_of
length-head_of blocks half = omega (arith, length-append (head_front blocks half) (1 ∷ zeros 4031), length-head_front blocks half, length-zeros 4031)

abbrev pub blocks_in : List ℕ → ℕ
blocks_in bytes = from_be_bytes w64 (get_or bytes 8 0 ∷ get_or bytes 9 0 ∷ get_or bytes 10 0 ∷ get_or bytes 11 0 ∷ get_or bytes 12 0 ∷ get_or bytes 13 0 ∷ get_or bytes 14 0 ∷ get_or bytes 15 0 ∷ [])

abbrev pub half_in : List ℕ → ℕ
half_in bytes = from_be_bytes w64 (get_or bytes 16 0 ∷ get_or bytes 17 0 ∷ get_or bytes 18 0 ∷ get_or bytes 19 0 ∷ get_or bytes 20 0 ∷ get_or bytes 21 0 ∷ get_or bytes 22 0 ∷ get_or bytes 23 0 ∷ [])

pub blocks_of_head : (blocks half : ℕ) (bytes : List ℕ) → AreLimits blocks half → bytes ≡ head_of blocks half → blocks_in bytes ≡ blocks
unfolding head_of head_front
blocks_of_head blocks half bytes limits is =
    subst (λ (l : List ℕ). blocks_in l ≡ blocks) (sym is) (from_be_bytes-to_be_bytes_8 blocks (omega (arith, limits.most)))

pub half_of_head : (blocks half : ℕ) (bytes : List ℕ) → AreLimits blocks half → bytes ≡ head_of blocks half → half_in bytes ≡ half
unfolding head_of head_front
half_of_head blocks half bytes limits is =
    subst (λ (l : List ℕ). half_in l ≡ half) (sym is) (from_be_bytes-to_be_bytes_8 half (omega (arith, limits.greatest)))

pub head_made : (blocks half gate : ℕ) (a b c d e f : List ℕ) → a ≡ 67 ∷ 76 ∷ 75 ∷ 83 ∷ 84 ∷ 79 ∷ 82 ∷ 49 ∷ [] → b ≡ a ++ to_be_bytes w64 blocks → c ≡ b ++ to_be_bytes w64 half → d ≡ c ++ zeros 40 → e ≡ d ++ gate ∷ [] → f ≡ e ++ zeros 4031 → f ≡ head_with blocks half gate
unfolding head_front
head_made blocks half gate a b c d e f is_a is_b is_c is_d is_e is_f =
    let front : d ≡ head_front blocks half = is_d ∙ ap (λ (l : List ℕ). l ++ zeros 40) (is_c ∙ ap (λ (l : List ℕ). l ++ to_be_bytes w64 half) (is_b ∙ ap (λ (l : List ℕ). l ++ to_be_bytes w64 blocks) is_a)) in
    is_f ∙ ap (λ (l : List ℕ). l ++ zeros 4031) (is_e ∙ ap (λ (l : List ℕ). l ++ gate ∷ []) front) ∙ append_assoc (head_front blocks half) (gate ∷ []) (zeros 4031)

-- the head block with an open gate is that of a journal
pub is_head_of : (blocks half : ℕ) (head : List ℕ) → head ≡ head_with blocks half 1 → head ≡ head_of blocks half
unfolding head_of
is_head_of blocks half head is = is

-- bytes that are none
pub no_head : (bytes : List ℕ) → (length bytes ≡ 4096 → ⊥) → (blocks half : ℕ) → AreLimits blocks half → bytes ≡ head_of blocks half → ⊥
no_head bytes other blocks half limits is = other (ap length is ∙ length-head_of blocks half)

pub wrong_limits : (bytes : List ℕ) (n m : ℕ) → n ≡ blocks_in bytes → m ≡ half_in bytes → (AreLimits n m → ⊥) → (blocks half : ℕ) → AreLimits blocks half → bytes ≡ head_of blocks half → ⊥
wrong_limits bytes n m is_n is_m wrong blocks half limits is =
    let same : n ≡ blocks = is_n ∙ blocks_of_head blocks half bytes limits is in
    let same_half : m ≡ half = is_m ∙ half_of_head blocks half bytes limits is in
    wrong (subst (λ (k : ℕ). AreLimits k m) (sym same) (subst (λ (k : ℕ). AreLimits blocks k) (sym same_half) limits))

pub other_head : (bytes head : List ℕ) (n m : ℕ) → n ≡ blocks_in bytes → m ≡ half_in bytes → head ≡ head_of n m → (bytes ≡ head → ⊥) → (blocks half : ℕ) → AreLimits blocks half → bytes ≡ head_of blocks half → ⊥
other_head bytes head n m is_n is_m is_head differ blocks half limits is =
    let same : n ≡ blocks = is_n ∙ blocks_of_head blocks half bytes limits is in
    let same_half : m ≡ half = is_m ∙ half_of_head blocks half bytes limits is in
    differ (is ∙ ap (λ (k : ℕ). head_of k half) (sym same) ∙ ap (λ (k : ℕ). head_of n k) (sym same_half) ∙ sym is_head)
