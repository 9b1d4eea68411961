use Rattle.std.proofs.Common.{ap, arith, drop, refl}
use Rattle.std.proofs.lemmas.Result.{err_from_is_err_and}
use Rattle.std.proofs.lemmas.List.{drop_all}
use Rattle.command_text.specs.Applications.{rows_text}
use Rattle.command_text.proofs.JoinedTexts.{one_row}
use Rattle.command_text.proofs.Wrote.{all_written, cut_off, nothing_yet, one_more}
use Rattle.command_text.proofs.app_replies.print_rows.Goals as goal

pub loop-row-init : goal.loop-row-init
loop-row-init g c = nothing_yet g.K.Sink c.args.sink.now (rows_text c.args.rows.now) (rows_text c.args.rows.now) refl

pub returns-in_err-print_row : goal.returns-in_err-print_row
returns-in_err-print_row g c =
    let fault = err_from_is_err_and c.from_residual.result c.from_residual.ensures.1 in
    let left = one_row c.args.rows.now c.loop-row.row-index c.row-item.result (omega arith) c.row-item.is in
    rw fault.1 (cut_off g.K.Sink c.args.sink.now c.loop-row.sink c.print_row.new.sink _ _ _ _ _ fault.0 left c.loop-row.invariant c.in_err-print_row.ensures)

pub loop-row-preserved : goal.loop-row-preserved
loop-row-preserved g c =
    let left = one_row c.args.rows.now c.loop-row.row-index c.row-item.result (omega arith) c.row-item.is in
    one_more g.K.Sink c.args.sink.now c.loop-row.sink c.print_row.new.sink _ _ _ _ left c.loop-row.invariant c.in_ok-print_row.ensures

pub returns : goal.returns
returns g c =
    all_written g.K.Sink c.args.sink.now c.loop-row.sink (rows_text c.args.rows.now) (rows_text (drop c.loop-row.row-index c.args.rows.now))
    (ap rows_text (drop_all c.loop-row.row-index c.args.rows.now c.loop-row-test.false)) c.loop-row.invariant
