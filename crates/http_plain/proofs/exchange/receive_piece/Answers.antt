use Rattle.std.proofs.Common.{◌-◌, arith}
use borrow.Rule.Slice.PartMut.{post_of, mid_of}
use Rattle.http_plain.proofs.Pieces.{piece_read}
use Rattle.http_plain.proofs.exchange.receive_piece.Goals as goal

pub returns-clause-read : goal.returns-clause-read
returns-clause-read g c = λ t.
    let size = c.min-end.result - c.args.used in
    piece_read c.receive.result _ _ c.args.front.now (mid_of c.args.used size c.args.front.now) c.receive.new.buf (post_of c.args.used size c.args.front.now) c.args.used
    (omega arith) c.receive.auto.buf c.receive.ensures.within (c.receive.ensures.bytes t)
