use Rattle.std.proofs.Common.{◌≡◌, ◌≤◌, Some, length}
use Rattle.connections.specs.Wire.{Made}
use Rattle.http_plain.specs.Begin.{IsSending}
use Rattle.http_plain.proofs.exchange.send_all.Given as goal

abbrev pub invariant-loop-rest : goal.invariant-loop-rest
invariant-loop-rest g l = record {
  sending : g.W.Wire.tells → (made : Made) → g.W.Wire.present l.initial.wire ≡ Some made
      → IsSending made (g.W.Wire.present l.wire) l.bytes l.rest;
  over : g.W.Wire.tells → g.W.Wire.over l.wire ≡ g.W.Wire.over l.initial.wire;
  count : g.W.Wire.count l.initial.wire ≤ g.W.Wire.count l.wire;
  quiet : g.W.Wire.count l.wire ≡ g.W.Wire.count l.initial.wire;
}

abbrev pub decreases-loop-rest : goal.decreases-loop-rest
decreases-loop-rest g l = length l.rest
