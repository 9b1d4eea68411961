use Rattle.http_link.proofs.Received.{receives_at_most}
use Rattle.http_link.proofs.stream.receive_next.Goals as goal

pub returns-clause-ahead : goal.returns-clause-ahead
returns-clause-ahead g c told =
    receives_at_most c.receive.result _ _ c.receive.new.buf (c.receive.ensures.bytes told)
