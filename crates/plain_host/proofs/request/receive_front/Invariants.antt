use Rattle.std.proofs.Common.{◌≡◌, ◌≤◌, ◌-◌, [], None, length, take}
use Rattle.http_plain.specs.Head.{head_end}
use Rattle.plain_host.specs.Connection.{Serving}
use Rattle.plain_host.proofs.request.receive_front.Given as goal

abbrev pub invariant-loop-used : goal.invariant-loop-used
invariant-loop-used g l = record {
  taken : g.G.Door.tells → Serving (g.G.Door.accepted l.initial.door) (g.G.Door.accepted l.door) (take l.used l.front) [];
  within : l.used ≤ length l.front;
  none : head_end (take l.used l.front) ≡ None;
  quiet : g.G.Door.count l.door ≡ g.G.Door.count l.initial.door;
  misses : g.G.Door.misses l.door ≡ g.G.Door.misses l.initial.door;
}

abbrev pub decreases-loop-used : goal.decreases-loop-used
decreases-loop-used g l = length l.front - l.used
