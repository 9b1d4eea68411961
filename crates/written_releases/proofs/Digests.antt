-- The SHA-256 digest of bytes: its length, and what its base64 text is.
use Rattle.std.proofs.Common.{◌≡◌, ◌+◌, ◌*◌, ◌<◌, ◌≤◌, ℕ, zero, suc, List, [], ◌∷◌, ◌++◌, length, length-append, refl, ap, arith, slice_index}
use Rattle.std.specs.Prelude.{nat_lt, replicate, true}
use Rattle.std.specs.List.{list_all}
use Rattle.std.specs.Int.{w32, to_be_bytes, bytes_high_first, byte_at}
use Rattle.std.specs.Str.{IsAscii, IsUtf8}
use Rattle.std.proofs.lemmas.Bool.{and_parts, ltb-true}
use Rattle.std.proofs.lemmas.List.{length-replicate}
use Rattle.std.proofs.lemmas.Str.{IsUtf8-from_ascii}
use Rattle.base64.specs.Engines.{standard}
use Rattle.base64.specs.GeneralPurpose.{IsBytes, encode_of, engine_symbols}
use Rattle.base64.specs.Rfc4648.{encode_symbols, padding_len}
use Rattle.base64.proofs.Encoding.{IsAscii-encode}
use Rattle.sha2.specs.Sha256.{digest_bytes, final_hash, initial_hash_256, sha256}

-- ---- bytes of words

abbrev AllBytes : List ℕ → Type 0
AllBytes [] = Unit {0}
AllBytes (b ∷ bs) = (b < 256) × AllBytes bs

low : (k n : ℕ) → byte_at k n < 256
low zero n = omega arith
low (suc k) n = omega arith

word_bytes : (k n : ℕ) → AllBytes (bytes_high_first k n)
word_bytes zero n = tt
word_bytes (suc k) n = (low k n, word_bytes k n)

word_long : (k n : ℕ) → length (bytes_high_first k n) ≡ k
word_long zero n = refl
word_long (suc k) n = ap suc (word_long k n)

both : (xs ys : List ℕ) → AllBytes xs → AllBytes ys → AllBytes (xs ++ ys)
both [] ys first second = second
both (x ∷ xs) ys first second = (first.0, both xs ys first.1 second)

digest_all : (h : List ℕ) (n : ℕ) → AllBytes (digest_bytes h n)
unfolding digest_bytes
digest_all h zero = tt
digest_all h (suc n) = both (digest_bytes h n) (to_be_bytes w32 (slice_index h n)) (digest_all h n) (word_bytes 4 (slice_index h n))

digest_long : (h : List ℕ) (n : ℕ) → length (digest_bytes h n) ≡ 4 * n
unfolding digest_bytes
digest_long h zero = refl
digest_long h (suc n) =
    let front = digest_long h n in
    let word : length (to_be_bytes w32 (slice_index h n)) ≡ 4 = word_long 4 (slice_index h n) in
    omega (arith, length-append (digest_bytes h n) (to_be_bytes w32 (slice_index h n)), front, word)

all_index : (bs : List ℕ) (i : ℕ) → AllBytes bs → slice_index bs i < 256
all_index [] i all = omega arith
all_index (b ∷ bs) zero all = all.0
all_index (b ∷ bs) (suc i) all = all_index bs i all.1

-- ---- the digest

pub sha_bytes : (bytes : List ℕ) → IsBytes (sha256 bytes)
unfolding sha256
sha_bytes bytes i = all_index (digest_bytes (final_hash initial_hash_256 bytes) 8) i (digest_all (final_hash initial_hash_256 bytes) 8)

pub sha_long : (bytes : List ℕ) → length (sha256 bytes) ≡ 32
unfolding sha256
sha_long bytes = digest_long (final_hash initial_hash_256 bytes) 8

-- ---- its text

ascii_at : (bytes : List ℕ) → list_all (λ b. nat_lt b 128) bytes ≡ true → IsAscii bytes
ascii_at [] is i = omega arith
ascii_at (b ∷ bs) is zero = ltb-true b 128 (and_parts (nat_lt b 128) (list_all (λ b. nat_lt b 128) bs) is).0
ascii_at (b ∷ bs) is (suc i) = ascii_at bs (and_parts (nat_lt b 128) (list_all (λ b. nat_lt b 128) bs) is).1 i

pub base64_utf8 : (bytes : List ℕ) → IsUtf8 (encode_of standard bytes)
base64_utf8 bytes =
    IsUtf8-from_ascii (encode_of standard bytes)
    (IsAscii-encode (engine_symbols standard) 61 true bytes (ascii_at (engine_symbols standard) refl) (omega arith))

symbols_long : (symbols bytes : List ℕ) → length (encode_symbols symbols bytes) ≤ 2 * length bytes
unfolding encode_symbols
symbols_long symbols [] = omega arith
symbols_long symbols (a ∷ []) = omega arith
symbols_long symbols (a ∷ b ∷ []) = omega arith
symbols_long symbols (a ∷ b ∷ c ∷ rest) = let more = symbols_long symbols rest in omega (arith, more)

pub base64_long : (bytes : List ℕ) → length (encode_of standard bytes) ≤ 2 * length bytes + 2
base64_long bytes =
    let symbols = symbols_long (engine_symbols standard) bytes in
    omega (
      arith,
      symbols,
      length-append (encode_symbols (engine_symbols standard) bytes) (replicate (padding_len (length bytes)) 61),
      length-replicate {A = ℕ} (padding_len (length bytes)) 61,
    )
