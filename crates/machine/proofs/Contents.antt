-- Files are told apart by their content keys.
use Rattle.std.proofs.Common.{◌≡◌, ◌↔◌, ◌==◌, true, false, List, ℕ, refl, ap, ◌∙◌, bytes_eq}
use Rattle.std.proofs.lemmas.Bool.{and_from, and_parts, eqb-true, eq-eqb}
use lib.Pointwise.{pointwise, pointwise_decides, bytes_decides}
use Rattle.digest_list.specs.declared.algorithm.Algorithm.{Algorithm}
use Rattle.digest_list.specs.declared.algorithm.Algorithm.TheVariants.{Sha1, Sha256, Sha384, Sha512}
use Rattle.digest_list.specs.declared.digest.Digest.{Digest}
use Rattle.digest_list.specs.Algorithm.{name_of}
use Rattle.manifests.specs.declared.facts.FileEntry.{FileEntry}
use Rattle.machine.specs.Views.{ContentKey, content_key, same_content, same_digest}

apart : {P : Type 0} → false ≡ true → P
apart e = absurd cc

-- the names of two algorithms differ
one_name : (a b : Algorithm) → bytes_eq (name_of a) (name_of b) ≡ true → a ≡ b
one_name Sha1 Sha1 e = refl
one_name Sha1 Sha256 e = apart e
one_name Sha1 Sha384 e = apart e
one_name Sha1 Sha512 e = apart e
one_name Sha256 Sha1 e = apart e
one_name Sha256 Sha256 e = refl
one_name Sha256 Sha384 e = apart e
one_name Sha256 Sha512 e = apart e
one_name Sha384 Sha1 e = apart e
one_name Sha384 Sha256 e = apart e
one_name Sha384 Sha384 e = refl
one_name Sha384 Sha512 e = apart e
one_name Sha512 Sha1 e = apart e
one_name Sha512 Sha256 e = apart e
one_name Sha512 Sha384 e = apart e
one_name Sha512 Sha512 e = refl

digest_decides : (a b : Digest) → (same_digest a b ≡ true → a ≡ b) × (a ≡ b → same_digest a b ≡ true)
digest_decides a b = (
  λ e.
      let parts = and_parts (bytes_eq (name_of a.algorithm) (name_of b.algorithm)) (bytes_eq a.value b.value) e in
      let algorithm : a.algorithm ≡ b.algorithm = one_name a.algorithm b.algorithm parts.0 in
      let value : a.value ≡ b.value = (bytes_decides a.value b.value).0 parts.1 in
      ap (λ (x : Algorithm). record a { algorithm = x }) algorithm ∙ ap (λ (v : List ℕ). record b { value = v }) value,
  λ e.
      and_from (bytes_eq (name_of a.algorithm) (name_of b.algorithm)) (bytes_eq a.value b.value)
      ((bytes_decides (name_of a.algorithm) (name_of b.algorithm)).1 (ap (λ (d : Digest). name_of d.algorithm) e))
      ((bytes_decides a.value b.value).1 (ap (λ (d : Digest). d.value) e)),
)

pub content_decides : (a b : FileEntry) → (same_content a b ≡ true) ↔ (content_key a ≡ content_key b)
content_decides a b = (
  λ e.
      let parts = and_parts (a.size == b.size) (pointwise same_digest a.list b.list) e in
      let size : a.size ≡ b.size = eqb-true a.size b.size parts.0 in
      let list : a.list ≡ b.list = (pointwise_decides digest_decides a.list b.list).0 parts.1 in
      ap (λ (n : ℕ). record (content_key a) { size = n }) size ∙ ap (λ (l : List Digest). record (content_key b) { list = l }) list,
  λ e.
      and_from (a.size == b.size) (pointwise same_digest a.list b.list)
      (eq-eqb a.size b.size (ap (λ (k : ContentKey). k.size) e))
      ((pointwise_decides digest_decides a.list b.list).1 (ap (λ (k : ContentKey). k.list) e)),
)
