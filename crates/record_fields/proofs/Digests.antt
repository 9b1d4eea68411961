-- Digests are read just as they are spelled.
use Rattle.std.proofs.Common.{◌≡◌, ℕ, ◌^◌, ◌<◌, ◌≤◌, true, ltb, List, [], ◌∷◌, length, Result, Ok, refl, ap, subst, ◌∙◌, arith}
use Rattle.std.proofs.lemmas.Bool.{ltb-true, lt-ltb}
use Rattle.small_types.specs.declared.limits.TheConstants.{HASH_LIMIT}
use Rattle.small_types.specs.Outcome.{◌>>=◌}
use Rattle.digest_list.specs.declared.algorithm.Algorithm.{Algorithm}
use Rattle.digest_list.specs.declared.algorithm.Algorithm.TheVariants.{Sha1, Sha256, Sha384, Sha512}
use Rattle.digest_list.specs.declared.digest.Digest.{Digest}
use Rattle.digest_list.specs.Algorithm.{size_of}
use Rattle.digest_list.specs.Digest.{IsSized}
use Rattle.record_fields.specs.declared.fault.CodecFault.{CodecFault}
use Rattle.record_fields.specs.declared.fault.CodecFault.TheVariants.{Bad}
use Rattle.record_fields.specs.declared.numbers.TheConstants.{SHA1_NUMBER, SHA256_NUMBER, SHA384_NUMBER, SHA512_NUMBER}
use Rattle.record_fields.specs.Fields.{text_field}
use Rattle.record_fields.specs.Places.{Stands}
use Rattle.record_fields.specs.Parts.{byte_at, algorithm_of, algorithm_at, value_at, digest_at, list_at, digests_of, digests_at}
use Rattle.record_fields.specs.Spelled.{algorithm_number, digest_field, list_field}
use Rattle.record_fields.specs.Values.{AreDigests}
use Rattle.record_fields.specs.Reads.{ReadsField}
use Rattle.record_fields.proofs.Fields.{bind_ok, ok_is, passed_test}
use Rattle.record_fields.proofs.Forms.{by_number, byte_reads}
use Rattle.record_fields.proofs.Bytes.{value_reads}
use Rattle.record_fields.proofs.Lists.{list_reads}
use Rattle.record_fields.proofs.Together.{first, last, same_values}

-- ---- algorithms

abbrev algorithm_field : Algorithm → List ℕ
algorithm_field algorithm = algorithm_number algorithm ∷ []

algorithm_made : (bytes : List ℕ) (place b mid : ℕ) (x : Algorithm × ℕ) → algorithm_of place b mid ≡ Ok x → Stands bytes place (b ∷ []) mid → Stands bytes place (algorithm_field x.0) x.1
algorithm_made bytes place b mid x =
    let P : ℕ → Type 0 = λ k. Stands bytes place (k ∷ []) mid → Stands bytes place (algorithm_field x.0) x.1 in
    by_number SHA1_NUMBER b _ _ x P (λ e stands. subst (λ (y : Algorithm × ℕ). Stands bytes place (algorithm_field y.0) y.1) (ok_is (Sha1, mid) x e) stands)
    (by_number SHA256_NUMBER b _ _ x P (λ e stands. subst (λ (y : Algorithm × ℕ). Stands bytes place (algorithm_field y.0) y.1) (ok_is (Sha256, mid) x e) stands)
    (by_number SHA384_NUMBER b _ _ x P (λ e stands. subst (λ (y : Algorithm × ℕ). Stands bytes place (algorithm_field y.0) y.1) (ok_is (Sha384, mid) x e) stands)
    (by_number SHA512_NUMBER b _ _ x P (λ e stands. subst (λ (y : Algorithm × ℕ). Stands bytes place (algorithm_field y.0) y.1) (ok_is (Sha512, mid) x e) stands)
    (λ none. absurd cc))))

algorithm_small : (algorithm : Algorithm) → algorithm_number algorithm < 256
algorithm_small Sha1 = omega arith
algorithm_small Sha256 = omega arith
algorithm_small Sha384 = omega arith
algorithm_small Sha512 = omega arith

algorithm_back : (place : ℕ) (algorithm : Algorithm) (next : ℕ) → algorithm_of place (algorithm_number algorithm) next ≡ Ok (algorithm, next)
algorithm_back place Sha1 next = refl
algorithm_back place Sha256 next = refl
algorithm_back place Sha384 next = refl
algorithm_back place Sha512 next = refl

algorithm_reads : ReadsField (λ (x : Algorithm). Unit {0}) algorithm_field algorithm_at
unfolding algorithm_at
algorithm_reads = record {
  takes = λ bytes place x fits within e.
      let byte = bind_ok (byte_at bytes place) (λ byte. algorithm_of place byte.0 byte.1) x e in
      let t = byte_reads.takes bytes place byte.0 fits within byte.1 in
      (algorithm_made bytes place byte.0.0 byte.0.1 x byte.2 t.0, tt);
  again = λ bytes place x next is stands.
      ap (λ (r : Result (ℕ × ℕ) CodecFault). (r >>= λ byte. algorithm_of place byte.0 byte.1)) (byte_reads.again bytes place (algorithm_number x) next (algorithm_small x) stands)
      ∙ algorithm_back place x next;
}

-- ---- digests

size_is_small : (algorithm : Algorithm) → size_of algorithm < 2 ^ 32
size_is_small Sha1 = omega arith
size_is_small Sha256 = omega arith
size_is_small Sha384 = omega arith
size_is_small Sha512 = omega arith

pub digest_reads : ReadsField IsSized digest_field digest_at
unfolding digest_at digest_field
digest_reads = same_values IsSized (
    first {X = Digest} algorithm_reads (λ x. x.algorithm) (λ a0 x. ((length x.value ≡ size_of a0) × (x ≡ record { algorithm = a0; value = x.value }))) (λ x. text_field x.value) (λ a0 bytes place. value_at (size_of a0) bytes place >>= λ p1. Ok (record { algorithm = a0; value = p1.0 }, p1.1)) (λ a0 x is. ap (λ (y : Digest). y.algorithm) is.1) (λ a0.
    last {X = Digest} (value_reads (size_of a0) (size_is_small a0)) (λ x. x.value) (λ a1. record { algorithm = a0; value = a1 }) (λ a1. refl)))
    (λ x is. is.1.0)
    (λ x is. (tt, (is, refl)))

-- 1 to 8 of them
pub digests_reads : ReadsField AreDigests (list_field digest_field) digests_at
unfolding digests_at
digests_reads = record {
  takes = λ bytes place x fits within e.
      let list = bind_ok (list_at HASH_LIMIT digest_at bytes place) (λ list. digests_of place list.0 list.1) x e in
      let t = (list_reads digest_reads HASH_LIMIT (omega arith)).takes bytes place list.0 fits within list.1 in
      let whole : List Digest × ℕ = (list.0.0, list.0.1) in
      let g = passed_test (ltb 0 (length list.0.0)) (Bad place) whole x list.2 in
      let some : 1 ≤ length list.0.0 = ltb-true 0 (length list.0.0) g.0 in
      subst (λ (y : List Digest × ℕ). Stands bytes place (list_field digest_field y.0) y.1 × AreDigests y.0) g.1
      (t.0, record { count = record { some = some; within = t.1.0 }; sized = t.1.1 });
  again = λ bytes place list next is stands.
      let one = (list_reads digest_reads HASH_LIMIT (omega arith)).again bytes place list next (is.count.within, is.sized) stands in
      let passes : ltb 0 (length list) ≡ true = lt-ltb 0 (length list) is.count.some in
      ap (λ (r : Result (List Digest × ℕ) CodecFault). (r >>= λ list. digests_of place list.0 list.1)) one
      ∙ rw passes refl;
}
