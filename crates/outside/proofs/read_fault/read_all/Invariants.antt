use Rattle.std.specs.Prelude.{◌≡◌, ◌≤◌, ◌++◌, ◌-◌, length}
use Rattle.outside.proofs.read_fault.read_all.Given as goal

abbrev pub invariant-loop-piece : goal.invariant-loop-piece
invariant-loop-piece g l = record {
  given : g.S.Source.tells → g.S.Source.left l.initial.source ≡ l.bytes.items ++ g.S.Source.left l.source;
  within : length l.bytes.items ≤ l.limit;
  count : g.S.Source.count l.source ≡ g.S.Source.count l.initial.source;
}

abbrev pub decreases-loop-piece : goal.decreases-loop-piece
decreases-loop-piece g l = l.limit - length l.bytes.items
