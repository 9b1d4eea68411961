use Rattle.std.proofs.Common.{◌≡◌}
use Rattle.generated_release.specs.Files.{times}
use Rattle.generated_release.proofs.files.repeated.Given as goal

abbrev pub invariant-loop-turn : goal.invariant-loop-turn
invariant-loop-turn l = l.made.items ≡ times l.turn l.bytes
