use Rattle.std.proofs.Common.{◌≡◌, ◌++◌, drop}
use Rattle.manifest_tree.specs.WrittenText.{escaped}
use Rattle.manifest_tree.proofs.write.escape.push_escaped.Given as goal

abbrev pub invariant-loop-byte : goal.invariant-loop-byte
invariant-loop-byte l = l.out ++ escaped (drop l.byte-index l.bytes) ≡ l.fn.out ++ escaped l.bytes
