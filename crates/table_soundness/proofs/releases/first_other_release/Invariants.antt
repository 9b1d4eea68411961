use Rattle.std.proofs.Common.{All, take}
use Rattle.table_soundness.specs.Soundness.{IsOneRelease}
use Rattle.table_soundness.proofs.releases.first_other_release.Given as goal

abbrev pub invariant-loop-view : goal.invariant-loop-view
invariant-loop-view l = All IsOneRelease (take l.view-index l.views)
