use Rattle.std.proofs.Common.{take, arith, inr, ◌∙◌, length-take}
use Rattle.http_plain.proofs.Pieces.{exchanged, exchanges, half_asked, half_heard, not_for_memory}
use Rattle.http_plain.proofs.exchange.ask_wire.Goals as goal

pub returns-in_default-send_all-clause-exchange : goal.returns-in_default-send_all-clause-exchange
returns-in_default-send_all-clause-exchange g c =
    λ t.
    half_asked c.args.target.now _ _ c.as_bytes.result.now (c.in-Ok.ensures.made t) (c.in_default-send_all.ensures.part t)
    (c.as_bytes.ensures.value ∙ c.in_ok-request.ensures)

pub returns-in_default-receive_front-clause-exchange : goal.returns-in_default-receive_front-clause-exchange
returns-in_default-receive_front-clause-exchange g c =
    λ t.
    inr (half_heard c.args.target.now _ _ _ c.as_bytes.result.now (c.in-Ok.ensures.made t) (c.in-Ok-send_all.ensures.sent t)
    (c.in_default-receive_front.ensures.part t) (c.as_bytes.ensures.value ∙ c.in_ok-request.ensures))

pub returns-clause-exchange : goal.returns-clause-exchange
returns-clause-exchange g c =
    λ t.
    exchanges c.args.target.now _ c.begin.result c.begin.ensures.own
    (exchanged c.args.target.now _ _ _ c.as_bytes.result.now (take c.in-Ok-receive_front.n c.receive_front.new.front) c.begin.result
    (c.in-Ok.ensures.made t)
    (c.in-Ok-send_all.ensures.sent t)
    (c.in-Ok-receive_front.ensures.front t)
    (c.as_bytes.ensures.value ∙ c.in_ok-request.ensures)
    (omega (arith, length-take c.in-Ok-receive_front.n c.receive_front.new.front, c.in-Ok-receive_front.ensures.few))
    c.begin.ensures.answers)

pub returns-clause-memory : goal.returns-clause-memory
returns-clause-memory g c =
    λ is. absurd (not_for_memory c.begin.result c.begin.ensures.own is)
