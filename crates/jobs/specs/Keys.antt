-- The keys of contents.
use Rattle.std.specs.Prelude.{ℕ, List}
use Rattle.digest_list.specs.declared.digest.Digest.{Digest}
use Rattle.machine.specs.Views.{ContentKey}

-- of this size and these digests
abbrev pub key_by : ℕ → List Digest → ContentKey
key_by size list = record { size = size; list = list }
