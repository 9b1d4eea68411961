use Rattle.std.proofs.Common.{◌≡◌, ◌≤◌, ◌-◌, Some, None, length, take}
use Rattle.connections.specs.Wire.{Made}
use Rattle.http_plain.specs.Begin.{IsRead}
use Rattle.http_plain.specs.Head.{head_end}
use Rattle.http_plain.proofs.exchange.receive_front.Given as goal

abbrev pub invariant-loop-used : goal.invariant-loop-used
invariant-loop-used g l = record {
  read : g.W.Wire.tells → (made : Made) → g.W.Wire.present l.initial.wire ≡ Some made
      → IsRead made (g.W.Wire.present l.wire) (take l.used l.front);
  within : l.used ≤ length l.front;
  none : head_end (take l.used l.front) ≡ None;
  over : g.W.Wire.tells → g.W.Wire.over l.wire ≡ g.W.Wire.over l.initial.wire;
  quiet : g.W.Wire.count l.wire ≡ g.W.Wire.count l.initial.wire;
}

abbrev pub decreases-loop-used : goal.decreases-loop-used
decreases-loop-used g l = length l.front - l.used
