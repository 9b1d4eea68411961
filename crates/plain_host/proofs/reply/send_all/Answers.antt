use Rattle.std.proofs.Common.{[], refl, arith}
use Rattle.plain_host.proofs.Steps.{untouched}
use Rattle.plain_host.proofs.reply.send_all.Goals as goal

pub loop-rest-init : goal.loop-rest-init
loop-rest-init g c = record {
  front = λ t. record { done = []; given = refl; sent = untouched (g.G.Door.accepted c.args.door.now) (c.requires t) };
  count = omega arith;
  quiet = refl;
  misses = refl;
}
