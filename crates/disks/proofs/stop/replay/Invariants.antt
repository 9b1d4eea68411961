use Rattle.std.proofs.Common.{◌≡◌, take}
use Rattle.disks.specs.Moves.{reads_after, picked_after, until}
use Rattle.disks.proofs.stop.replay.Given as goal

abbrev pub invariant-loop-call : goal.invariant-loop-call
invariant-loop-call l = record {
  reads : l.reads ≡ reads_after l.first (until l.moment (take l.call-index l.calls));
  image : l.image ≡ picked_after l.pick l.first l.first (until l.moment (take l.call-index l.calls));
}
