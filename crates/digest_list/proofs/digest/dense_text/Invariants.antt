use Rattle.std.proofs.Common.{◌≡◌, ◌++◌, drop}
use Rattle.digest_list.specs.Digest.{without_space}
use Rattle.digest_list.proofs.digest.dense_text.Given as goal

abbrev pub invariant-loop-byte : goal.invariant-loop-byte
invariant-loop-byte l = l.kept.items ++ without_space (drop l.byte-index l.text) ≡ without_space l.text
