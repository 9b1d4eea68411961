use Rattle.std.proofs.Common.{◌-◌, ◌≤◌, ◌/◌}
use Rattle.file_store.proofs.Runs.{IsRun}
use Rattle.file_store.proofs.piece.stretch.Given as goal

abbrev pub invariant-loop-last : goal.invariant-loop-last
invariant-loop-last l = record {
  first : l.from / 4096 ≤ l.last;
  within : l.last ≤ l.end;
  run : IsRun l.blocks (l.from / 4096) l.last;
}

abbrev pub decreases-loop-last : goal.decreases-loop-last
decreases-loop-last l = l.end - l.last
