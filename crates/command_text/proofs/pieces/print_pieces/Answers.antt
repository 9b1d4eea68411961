use Rattle.std.proofs.Common.{arith}
use Rattle.std.proofs.lemmas.Result.{err_from_is_err_and}
use Rattle.command_text.proofs.Wrote.{stopped}
use Rattle.command_text.proofs.pieces.print_pieces.Goals as goal

pub returns-in_err-print_piece : goal.returns-in_err-print_piece
returns-in_err-print_piece g c =
    let fault = err_from_is_err_and c.from_residual.result c.from_residual.ensures.1 in
    rw fault.1 (stopped g.K.Sink c.args.sink.now c.loop-piece.sink c.print_piece.new.sink c.args.pieces.now c.loop-piece.piece-index _ _ fault.0 (omega arith) c.loop-piece.invariant.takes c.loop-piece.invariant.count c.in_err-print_piece.ensures)
