use Rattle.std.proofs.Common.{◌-◌, arith}
use borrow.Rule.Slice.PartMut.{post_of, mid_of}
use Rattle.plain_host.proofs.Steps.{piece_taken, piece_ends}
use Rattle.plain_host.proofs.request.receive_piece.Goals as goal

pub returns-clause-taken : goal.returns-clause-taken
returns-clause-taken g c = λ t.
    let size = c.min-end.result - c.args.used in
    piece_taken c.receive.result _ _ c.args.front.now (mid_of c.args.used size c.args.front.now) c.receive.new.buf (post_of c.args.used size c.args.front.now) c.args.used
    (omega arith) c.receive.auto.buf c.receive.ensures.within (c.receive.ensures.bytes t)

pub returns-clause-end : goal.returns-clause-end
returns-clause-end g c = λ t.
    let size = c.min-end.result - c.args.used in
    piece_ends c.receive.result _ _ c.args.front.now c.receive.new.buf (post_of c.args.used size c.args.front.now) c.args.used
    (omega arith) (c.receive.ensures.bytes t)
