-- The standard base64 of a value has no white space, so its digest is read back; and what is refused spells no digest.
use Rattle.std.proofs.Common.{◌≡◌, ℕ, zero, suc, ◌<◌, ◌≤◌, ◌+◌, ◌∙◌, Bool, true, not, List, [], ◌∷◌, length, length-append, replicate, filter, slice_index, Result, Ok, Err, IfOk, ◌≢◌, refl, sym, ap, ap₂, arith}
use Rattle.std.specs.List.{list_all}
use Rattle.std.proofs.lemmas.List.{length-replicate}
use Rattle.std.proofs.lemmas.List.Elements.{filter-append}
use Rattle.std.proofs.lemmas.Bool.{and_parts, cond_both, eq-eqb, ne_eqb}
use Rattle.base64.specs.declared.decode.DecodeError.{DecodeError}
use Rattle.base64.specs.Rfc4648.{encode_symbols, padding_len, unpadded_len}
use Rattle.base64.specs.Engines.{standard}
use Rattle.base64.specs.GeneralPurpose.{IsBytes, IsStrict, decode_of, encode_of, engine_symbols}
use Rattle.base64.proofs.EngineFacts.{decode_of_iff, decode_of_strict}
use Rattle.base64.proofs.RoundTrip.{length-encode_symbols}
use Rattle.digest_list.specs.declared.algorithm.Algorithm.{Algorithm}
use Rattle.digest_list.specs.declared.algorithm.Algorithm.TheVariants.{Sha1, Sha256, Sha384, Sha512}
use Rattle.digest_list.specs.declared.digest.Digest.{Digest}
use Rattle.digest_list.specs.declared.digest.DigestFault.{DigestFault}
use Rattle.digest_list.specs.declared.digest.DigestFault.TheVariants.{Bad}
use Rattle.digest_list.specs.Algorithm.{size_of}
use Rattle.digest_list.specs.Digest.{IsSized, digest_of, digest_of_value, is_space, without_space}

-- an element of a list that passes, where what stands for a missing one passes too
passes_at : (p : ℕ → Bool) (xs : List ℕ) → list_all p xs ≡ true → p 0 ≡ true → (i : ℕ) → p (slice_index xs i) ≡ true
passes_at p [] all none zero = none
passes_at p [] all none (suc i) = none
passes_at p (x ∷ xs) all none zero = (and_parts _ _ all).0
passes_at p (x ∷ xs) all none (suc i) = passes_at p xs (and_parts _ _ all).1 none i

filter-cons : (p : ℕ → Bool) (x : ℕ) (xs : List ℕ) → p x ≡ true → filter p xs ≡ xs → filter p (x ∷ xs) ≡ x ∷ xs
filter-cons p x xs here rest = rw (here, rest)

filter-replicate : (p : ℕ → Bool) (x n : ℕ) → p x ≡ true → filter p (replicate n x) ≡ replicate n x
filter-replicate p x zero here = refl
filter-replicate p x (suc n) here = filter-cons p x (replicate n x) here (filter-replicate p x n here)

filter-encode_symbols : (p : ℕ → Bool) (t : List ℕ) → ((i : ℕ) → p (slice_index t i) ≡ true) → (m : List ℕ)
    → filter p (encode_symbols t m) ≡ encode_symbols t m
unfolding encode_symbols
filter-encode_symbols p t each [] = refl
filter-encode_symbols p t each (a ∷ []) = filter-cons p _ _ (each _) (filter-cons p _ _ (each _) refl)
filter-encode_symbols p t each (a ∷ b ∷ []) =
    filter-cons p _ _ (each _) (filter-cons p _ _ (each _) (filter-cons p _ _ (each _) refl))
filter-encode_symbols p t each (a ∷ b ∷ c ∷ rest) =
    filter-cons p _ _ (each _) (filter-cons p _ _ (each _) (filter-cons p _ _ (each _) (filter-cons p _ _ (each _)
    (filter-encode_symbols p t each rest))))

symbol_kept : (i : ℕ) → not (is_space (slice_index (engine_symbols standard) i)) ≡ true
symbol_kept = passes_at (λ b. not (is_space b)) (engine_symbols standard) refl refl

pub without_space-encode_of : (m : List ℕ) → without_space (encode_of standard m) ≡ encode_of standard m
without_space-encode_of m =
    filter-append (λ b. not (is_space b)) (encode_symbols (engine_symbols standard) m) (replicate (padding_len (length m)) 61)
    ∙ rw (filter-encode_symbols (λ b. not (is_space b)) (engine_symbols standard) symbol_kept m, filter-replicate (λ b. not (is_space b)) 61 (padding_len (length m)) refl)

-- a value of the right length is read back from its base64
pub digest_of-encode_of : (digest : Digest) → decode_of standard (encode_of standard digest.value) ≡ Ok digest.value → IsSized digest
    → digest_of digest.algorithm (encode_of standard digest.value) ≡ Ok digest
unfolding digest_of
digest_of-encode_of digest decoded sized =
    ap (λ (s : List ℕ). digest_of_value digest.algorithm (decode_of standard s)) (without_space-encode_of digest.value)
    ∙ (ap (digest_of_value digest.algorithm) decoded ∙ rw (eq-eqb _ _ sized))

-- what is read, by what the text without white space decodes to
pub digest_of-value : (algorithm : Algorithm) (text value : List ℕ) → decode_of standard (without_space text) ≡ Ok value
    → length value ≡ size_of algorithm → digest_of algorithm text ≡ Ok (record { algorithm = algorithm; value = value })
unfolding digest_of
digest_of-value algorithm text value decoded sized =
    ap (digest_of_value algorithm) decoded ∙ rw (eq-eqb _ _ sized)

-- ---- what is no digest

bytes_first : (x : ℕ) (xs : List ℕ) → IsBytes (x ∷ xs) → x < 256
bytes_first x xs are = are 0

bytes_rest : (x : ℕ) (xs : List ℕ) → IsBytes (x ∷ xs) → IsBytes xs
bytes_rest x xs are i = are (suc i)

bytes_more : (x : ℕ) (xs : List ℕ) → x < 256 → IsBytes xs → IsBytes (x ∷ xs)
bytes_more x xs first rest zero = first
bytes_more x xs first rest (suc i) = rest i

-- what is left of bytes is bytes
kept_bytes : (p : ℕ → Bool) (xs : List ℕ) → IsBytes xs → IsBytes (filter p xs)
kept_bytes p [] are = are
kept_bytes p (x ∷ xs) are =
    let rest = kept_bytes p xs (bytes_rest x xs are) in
    cond_both (p x) (x ∷ filter p xs) (filter p xs) IsBytes (λ _. bytes_more x (filter p xs) (bytes_first x xs are) rest) (λ _. rest)

pub dense_bytes : (text : List ℕ) → IsBytes text → IsBytes (without_space text)
dense_bytes text are = kept_bytes (λ b. not (is_space b)) text are

strict : IsStrict standard
strict = (refl, refl)

-- the length of the base64
length-encode_of : (b : List ℕ) → length (encode_of standard b) ≡ unpadded_len (length b) + padding_len (length b)
length-encode_of b =
    length-append (encode_symbols (engine_symbols standard) b) (replicate (padding_len (length b)) 61)
    ∙ ap₂ (λ (m n : ℕ). m + n) (length-encode_symbols (engine_symbols standard) b) (length-replicate (padding_len (length b)) 61)

pub size_small : (algorithm : Algorithm) → size_of algorithm ≤ 64
size_small Sha1 = omega arith
size_small Sha256 = omega arith
size_small Sha384 = omega arith
size_small Sha512 = omega arith

encode_short : (algorithm : Algorithm) (b : List ℕ) → length b ≡ size_of algorithm → length (encode_of standard b) ≤ 88
encode_short algorithm b sized =
    let small = size_small algorithm in
    let long = length-encode_of b in
    omega arith

-- what decodes to another length, or to nothing
pub digest_of-none : (algorithm : Algorithm) (text : List ℕ) → IfOk (decode_of standard (without_space text)) (λ value. length value ≢ size_of algorithm)
    → digest_of algorithm text ≡ Err Bad
unfolding digest_of
digest_of-none algorithm text none = by_value (decode_of standard (without_space text)) none
  where
    by_value : (r : Result (List ℕ) DecodeError) → IfOk r (λ value. length value ≢ size_of algorithm) → digest_of_value algorithm r ≡ Err Bad
    by_value (Ok value) other = rw (ne_eqb _ _ other)
    by_value (Err e) other = refl

-- what is longer than the base64 of a digest
pub digest_of-long : (algorithm : Algorithm) (text : List ℕ) → IsBytes text → 88 < length (without_space text) → digest_of algorithm text ≡ Err Bad
digest_of-long algorithm text are long = digest_of-none algorithm text (by_value (decode_of standard (without_space text)) refl)
  where
    by_value : (r : Result (List ℕ) DecodeError) → decode_of standard (without_space text) ≡ r → IfOk r (λ value. length value ≢ size_of algorithm)
    by_value (Ok value) is = λ sized.
        let spelled = decode_of_strict standard (without_space text) value strict (dense_bytes text are) is in
        let short = encode_short algorithm value sized in
        omega (arith, long, short, ap (length {A = ℕ}) spelled)
    by_value (Err e) is = tt

abbrev digest_ok : Digest → Result Digest DigestFault
digest_ok digest = Ok digest

-- a text that is refused is the base64 of no value of the length
pub digest_of-refused : (algorithm : Algorithm) (text : List ℕ) → IsBytes text → digest_of algorithm text ≡ Err Bad
    → (b : List ℕ) → IsBytes b → length b ≡ size_of algorithm → without_space text ≢ encode_of standard b
digest_of-refused algorithm text are refused b bytes sized is =
    let decoded = (decode_of_iff standard (without_space text) b strict (dense_bytes text are) bytes).1 is in
    let read = digest_of-value algorithm text b decoded sized in
    let both : digest_ok (record { algorithm = algorithm; value = b }) ≡ Err Bad = sym read ∙ refused in
    absurd cc

-- a text that decodes is the base64 of what it decodes to
pub spelled_by : (text value : List ℕ) → IsBytes text → decode_of standard (without_space text) ≡ Ok value → without_space text ≡ encode_of standard value
spelled_by text value are decoded = decode_of_strict standard (without_space text) value strict (dense_bytes text are) decoded
