-- Content keys in order.
use Rattle.std.specs.Prelude.{◌≢◌, ◌⊎◌, List, All, AllPairs, Contains}
use Rattle.std.specs.Cmp.Lexicographic.{slice_cmp}
use Rattle.std.specs.List.Sorted.{IsPermutation, IsSorted}
use Rattle.std.specs.Ordering.{nat_cmp, on, then_cmp}
use Rattle.std.specs.declared.cmp.Ordering.{Ordering}
use Rattle.identity.specs.Printed.{text_cmp}
use Rattle.digest_list.specs.declared.digest.Digest.{Digest}
use Rattle.digest_list.specs.Algorithm.{name_of}
use Rattle.machine.specs.Views.{ContentKey}

-- digests by their algorithms, then by their values
abbrev pub digest_cmp : Digest → Digest → Ordering
digest_cmp =
    then_cmp (on (λ (d : Digest). name_of d.algorithm) text_cmp)
    (on (λ (d : Digest). d.value) text_cmp)

-- by sizes, then by the digests from the first
abbrev pub content_key_cmp : ContentKey → ContentKey → Ordering
content_key_cmp =
    then_cmp (on (λ (k : ContentKey). k.size) nat_cmp)
    (on (λ (k : ContentKey). k.list) (slice_cmp digest_cmp))

-- the index has these, in order
pub record IsIndex (keys index : List ContentKey) : Type 0 where
  pub sorted : IsSorted content_key_cmp index
  pub same : IsPermutation keys index

-- The keys of files that stand are those of contents that are held or brought, and no key is brought
-- that is held, twice, or of no file.
pub record Agree (held standing brought : List ContentKey) : Type 0 where
  pub once : AllPairs (λ (a b : ContentKey). a ≢ b) brought
  pub each : All (λ key. Contains held key ⊎ Contains brought key) standing
  pub only : All (λ key. Contains standing key) brought
  pub lacking : All (λ key. ¬ Contains held key) brought
