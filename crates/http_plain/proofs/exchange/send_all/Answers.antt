use Rattle.std.proofs.Common.{sym, subst, ◌∙◌, arith}
use Rattle.http_plain.specs.Begin.{IsSending}
use Rattle.http_plain.proofs.Pieces.{send_more, send_done}
use Rattle.http_plain.proofs.exchange.send_all.Goals as goal

pub loop-rest-preserved : goal.loop-rest-preserved
loop-rest-preserved g c = record {
  sending = λ t made is.
      subst (λ rest. IsSending made (g.W.Wire.present c.send.new.self) c.args.bytes.now rest) (sym c.bytes_behind-rest.ensures)
      (send_more made _ _ _ _ _ (c.loop-rest.invariant.sending t made is) (c.in_ok-n.ensures.bytes t));
  over = λ t. c.in_ok-n.ensures.over_kept t ∙ c.loop-rest.invariant.over t;
  count = omega arith;
  quiet = c.in_ok-n.ensures.cause.quiet ∙ c.loop-rest.invariant.quiet;
}

pub returns-clause-sent : goal.returns-clause-sent
returns-clause-sent g c =
    λ t made is. send_done made _ _ _ (sym c.is_empty.ensures ∙ c.loop-rest-test.false) (c.loop-rest.invariant.sending t made is)
