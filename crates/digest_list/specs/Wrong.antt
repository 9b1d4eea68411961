-- A digest beside the digests that were made.
use Rattle.std.specs.Prelude.{Bool, not}
use Rattle.std.specs.Str.{bytes_eq}
use Rattle.digest_list.specs.declared.digest.Digest.{Digest}
use Rattle.digest_list.specs.declared.hashers.Sums.{Sums}
use Rattle.digest_list.specs.Hashers.{sum_of}

-- whether the digest is not the one that was made under its algorithm
abbrev pub is_wrong : Sums → Digest → Bool
is_wrong sums digest = not (bytes_eq digest.value (sum_of sums digest.algorithm))
