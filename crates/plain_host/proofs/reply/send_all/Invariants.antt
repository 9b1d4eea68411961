use Rattle.std.proofs.Common.{◌≡◌, ◌≤◌, length}
use Rattle.plain_host.specs.Connection.{SendsFront}
use Rattle.plain_host.proofs.reply.send_all.Given as goal

abbrev pub invariant-loop-rest : goal.invariant-loop-rest
invariant-loop-rest g l = record {
  front : g.G.Door.tells → SendsFront (g.G.Door.accepted l.initial.door) (g.G.Door.accepted l.door) l.bytes l.rest;
  count : g.G.Door.count l.initial.door ≤ g.G.Door.count l.door;
  quiet : g.G.Door.count l.door ≡ g.G.Door.count l.initial.door;
  misses : g.G.Door.misses l.door ≡ g.G.Door.misses l.initial.door;
}

abbrev pub decreases-loop-rest : goal.decreases-loop-rest
decreases-loop-rest g l = length l.rest
