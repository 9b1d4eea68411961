use Rattle.std.proofs.Common.{◌≡◌, ◌+◌, ◌≤◌, length, drop}
use Rattle.manifest_tree.specs.WrittenText.{counted, escaped}
use Rattle.manifest_tree.proofs.Pushes.{greatest}
use Rattle.manifest_tree.proofs.write.escape.count_escaped.Given as goal

abbrev pub invariant-loop-byte : goal.invariant-loop-byte
invariant-loop-byte l = record {
  sum : counted (l.count + length (escaped (drop l.byte-index l.bytes))) ≡ counted (l.total + length (escaped l.bytes));
  fits : l.count ≤ greatest;
}
