-- The SHA-256 digest of bytes, alone: it can be written, and the bytes match it.
use Rattle.std.proofs.Common.{◌≡◌, ◌*◌, ◌<◌, ℕ, zero, suc, List, [], ◌∷◌, ◌++◌, length, length-append, All, refl, ap, arith, slice_index}
use Rattle.std.proofs.lemmas.List.Elements.{All-cons, All-nil}
use Rattle.std.specs.Int.{w32, to_be_bytes, bytes_high_first, byte_at}
use Rattle.sha2.specs.Sha256.{digest_bytes, final_hash, initial_hash_256, sha256}
use Rattle.base64.specs.GeneralPurpose.{IsBytes}
use Rattle.digest_list.specs.Digest.{IsSized}
use Rattle.digest_list.specs.Matches.{IsDigestOf, Matches}
use Rattle.digest_list.specs.declared.digest.Digest.{Digest}
use Rattle.manifest_writer.specs.Held.{AreHeldDigests, IsHeldDigest}
use Rattle.publisher.specs.Publication.{digests_of}

-- ---- bytes of words

abbrev AllBytes : List ℕ → Type 0
AllBytes [] = Unit {0}
AllBytes (b ∷ bs) = (b < 256) × AllBytes bs

low : (k n : ℕ) → byte_at k n < 256
low zero n = omega arith
low (suc k) n = omega arith

word_bytes : (k n : ℕ) → AllBytes (bytes_high_first k n)
word_bytes zero n = tt
word_bytes (suc k) n = (low k n, word_bytes k n)

word_long : (k n : ℕ) → length (bytes_high_first k n) ≡ k
word_long zero n = refl
word_long (suc k) n = ap suc (word_long k n)

both : (xs ys : List ℕ) → AllBytes xs → AllBytes ys → AllBytes (xs ++ ys)
both [] ys first second = second
both (x ∷ xs) ys first second = (first.0, both xs ys first.1 second)

digest_all : (h : List ℕ) (n : ℕ) → AllBytes (digest_bytes h n)
unfolding digest_bytes
digest_all h zero = tt
digest_all h (suc n) = both (digest_bytes h n) (to_be_bytes w32 (slice_index h n)) (digest_all h n) (word_bytes 4 (slice_index h n))

digest_long : (h : List ℕ) (n : ℕ) → length (digest_bytes h n) ≡ 4 * n
unfolding digest_bytes
digest_long h zero = refl
digest_long h (suc n) =
    let front = digest_long h n in
    let word : length (to_be_bytes w32 (slice_index h n)) ≡ 4 = word_long 4 (slice_index h n) in
    omega (arith, length-append (digest_bytes h n) (to_be_bytes w32 (slice_index h n)), front, word)

all_index : (bs : List ℕ) (i : ℕ) → AllBytes bs → slice_index bs i < 256
all_index [] i all = omega arith
all_index (b ∷ bs) zero all = all.0
all_index (b ∷ bs) (suc i) all = all_index bs i all.1

-- ---- the digest

sha_bytes : (bytes : List ℕ) → IsBytes (sha256 bytes)
unfolding sha256
sha_bytes bytes i = all_index (digest_bytes (final_hash initial_hash_256 bytes) 8) i (digest_all (final_hash initial_hash_256 bytes) 8)

sha_long : (bytes : List ℕ) → length (sha256 bytes) ≡ 32
unfolding sha256
sha_long bytes = digest_long (final_hash initial_hash_256 bytes) 8

-- ---- the list

module _ (bytes : List ℕ) where
  pub digests_sized : All IsSized (digests_of bytes)
  digests_sized = All-cons IsSized _ [] (sha_long bytes) (All-nil IsSized)

  pub digests_held : AreHeldDigests (digests_of bytes)
  digests_held = record {
    count = record { some = omega arith; within = omega arith };
    each = All-cons IsHeldDigest _ [] (sha_bytes bytes) (All-nil IsHeldDigest);
  }

  not_none : (d : Digest) → ◌≡◌ {A = List Digest} (d ∷ []) [] → ⊥
  not_none d e = cc

  pub digests_match : Matches (digests_of bytes) (length bytes) bytes
  digests_match = record {
    sized = refl;
    some = not_none _;
    digests = All-cons (IsDigestOf bytes) _ [] refl (All-nil (IsDigestOf bytes));
  }
