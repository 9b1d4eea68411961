use Rattle.std.proofs.Common.{◌≡◌, ◌++◌, drop}
use Rattle.std.specs.List.{flat_map}
use Rattle.manifest_text.specs.Lines as spec
use Rattle.manifest_text.proofs.lines.digest_lines.Given as goal

abbrev pub invariant-loop-digest : goal.invariant-loop-digest
invariant-loop-digest l = l.out ++ flat_map spec.digest_line (drop l.digest-index l.digests) ≡ l.fn.out ++ flat_map spec.digest_line l.digests
