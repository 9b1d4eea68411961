use Rattle.std.proofs.Common.{take}
use Rattle.std.specs.Prelude.{All}
use Rattle.manifest_writer.specs.Held.{IsHeldDigest}
use Rattle.manifest_writer.proofs.held.digests_held.Given as goal

abbrev pub invariant-loop-digest : goal.invariant-loop-digest
invariant-loop-digest l = All IsHeldDigest (take l.digest-index l.list)
