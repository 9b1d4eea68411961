use Rattle.std.proofs.Common.{◌≡◌, ◌+◌, take, ap, sym, ◌∙◌, refl, arith, length-take}
use Rattle.std.specs.Option.{is_some}
use Rattle.http_plain.specs.declared.exchange.TheConstants.{ANSWER_PIECE}
use Rattle.http_plain.proofs.Ends.{no_end, near_none, near_taken}
use Rattle.http_plain.proofs.Pieces.{front_at_end, front_at_mark, front_at_limit}
use Rattle.http_plain.proofs.exchange.receive_front.Goals as goal

pub loop-used-init : goal.loop-used-init
loop-used-init g c = record {
  read = λ t made is. record { left = made.left; after = is; given = refl };
  within = omega arith;
  none = no_end;
  over = λ t. refl;
  quiet = refl;
}

pub returns-then-n-eq0-clause-front : goal.returns-then-n-eq0-clause-front
returns-then-n-eq0-clause-front g c =
    λ t made is.
    let before = c.loop-used.invariant.read t made is in
    let same : c.loop-used.used ≡ c.loop-used.used + c.in_ok-n.n = omega (arith, c.if-n-eq0.true) in
    front_at_end made _ _ (c.in_ok-n.ensures.read t made before)
    (c.in_ok-n.ensures.end t c.if-n-eq0.true made before ∙ sym c.in_ok-n.ensures.kept ∙ ap (λ k. take k c.receive_piece.new.front) same)
    (near_taken ANSWER_PIECE c.loop-used.used c.in_ok-n.n c.loop-used.front c.receive_piece.new.front c.loop-used.invariant.none c.in_ok-n.ensures.kept c.in_ok-n.ensures.few)

pub returns-then-is_some-clause-front : goal.returns-then-is_some-clause-front
returns-then-is_some-clause-front g c =
    λ t made is.
    front_at_mark made _ _ (c.in_ok-n.ensures.read t made (c.loop-used.invariant.read t made is))
    (omega (arith, length-take (c.loop-used.used + c.in_ok-n.n) c.receive_piece.new.front, c.in_ok-n.ensures.fits, c.receive_piece.auto.front, c.loop-used.auto.front, c.requires))
    (sym (c.is_some.ensures ∙ ap is_some c.find_head_end.ensures) ∙ c.if-is_some.true)
    (near_taken ANSWER_PIECE c.loop-used.used c.in_ok-n.n c.loop-used.front c.receive_piece.new.front c.loop-used.invariant.none c.in_ok-n.ensures.kept c.in_ok-n.ensures.few)

pub returns-clause-front : goal.returns-clause-front
returns-clause-front g c =
    λ t made is.
    let long = length-take c.loop-used.used c.loop-used.front in
    front_at_limit made _ _ (c.loop-used.invariant.read t made is) (omega (arith, long, c.loop-used.auto.front, c.requires)) (omega (arith, long, c.loop-used.auto.front, c.requires))
    c.loop-used.invariant.none

pub returns-then-n-eq0-clause-near : goal.returns-then-n-eq0-clause-near
returns-then-n-eq0-clause-near g c =
    near_taken ANSWER_PIECE c.loop-used.used c.in_ok-n.n c.loop-used.front c.receive_piece.new.front
    c.loop-used.invariant.none c.in_ok-n.ensures.kept c.in_ok-n.ensures.few

pub returns-then-is_some-clause-near : goal.returns-then-is_some-clause-near
returns-then-is_some-clause-near g c =
    near_taken ANSWER_PIECE c.loop-used.used c.in_ok-n.n c.loop-used.front c.receive_piece.new.front
    c.loop-used.invariant.none c.in_ok-n.ensures.kept c.in_ok-n.ensures.few

pub returns-clause-near : goal.returns-clause-near
returns-clause-near g c = near_none ANSWER_PIECE _ c.loop-used.invariant.none
