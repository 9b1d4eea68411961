use Rattle.std.proofs.Common.{◌≡◌, ◌+◌, List, [], take, ap, sym, subst, ◌∙◌, refl, arith, length-take}
use Rattle.std.specs.Option.{is_some}
use Rattle.connections.specs.Door.{Accepted}
use Rattle.http_plain.proofs.Ends.{near_none, near_taken, no_end}
use Rattle.plain_host.specs.Connection.{Serving}
use Rattle.plain_host.specs.declared.request.TheConstants.{REQUEST_PIECE}
use Rattle.plain_host.proofs.Steps.{untouched, ends_here, ends_head, fills}
use Rattle.plain_host.proofs.request.receive_front.Goals as goal

pub loop-used-init : goal.loop-used-init
loop-used-init g c = record {
  taken = λ t. untouched (g.G.Door.accepted c.args.door.now) (c.requires.there t);
  within = omega arith;
  none = no_end;
  quiet = refl;
  misses = refl;
}

pub returns-then-n-eq0-clause-front : goal.returns-then-n-eq0-clause-front
returns-then-n-eq0-clause-front g c = λ t.
    ends_here _ _ _ (c.in_ok-n.ensures.end t c.if-n-eq0.true _ (c.loop-used.invariant.taken t))
    (near_taken REQUEST_PIECE c.loop-used.used c.in_ok-n.n c.loop-used.front c.receive_piece.new.front c.loop-used.invariant.none c.in_ok-n.ensures.kept c.in_ok-n.ensures.few)

pub returns-then-is_some-clause-front : goal.returns-then-is_some-clause-front
returns-then-is_some-clause-front g c = λ t.
    ends_head _ _ _ (c.in_ok-n.ensures.taken t _ (c.loop-used.invariant.taken t))
    (omega (arith, length-take (c.loop-used.used + c.in_ok-n.n) c.receive_piece.new.front, c.in_ok-n.ensures.fits, c.receive_piece.auto.front, c.loop-used.auto.front, c.requires.whole))
    (sym (c.is_some.ensures ∙ ap is_some c.find_head_end.ensures) ∙ c.if-is_some.true)
    (near_taken REQUEST_PIECE c.loop-used.used c.in_ok-n.n c.loop-used.front c.receive_piece.new.front c.loop-used.invariant.none c.in_ok-n.ensures.kept c.in_ok-n.ensures.few)

pub returns-clause-front : goal.returns-clause-front
returns-clause-front g c = λ t.
    let long = length-take c.loop-used.used c.loop-used.front in
    fills _ _ _ (c.loop-used.invariant.taken t) (omega (arith, long, c.loop-used.auto.front, c.requires.whole))
    (near_none REQUEST_PIECE (take c.loop-used.used c.loop-used.front) c.loop-used.invariant.none)
