use Rattle.std.proofs.Common.{◌∷◌, ◌++◌, [], codes, decimal, length, refl}
use Rattle.std.proofs.lemmas.Result.{err_from_is_err_and}
use Rattle.command_text.specs.Applications.{list_text, rows_text}
use Rattle.command_text.proofs.JoinedTexts.{list_parts}
use Rattle.command_text.proofs.Wrote.{cut_off, last_part, nothing_yet, one_more}
use Rattle.command_text.proofs.app_replies.print_list.Goals as goal

pub returns-in_err-print_pieces : goal.returns-in_err-print_pieces
returns-in_err-print_pieces g c =
    let fault = err_from_is_err_and c.from_residual.result c.from_residual.ensures.1 in
    let rows = c.args.rows.now in
    let first = codes "ok list " ++ (decimal (length rows) ++ 10 ∷ []) in
    rw fault.1 (cut_off g.K.Sink c.args.sink.now c.args.sink.now c.print_pieces.new.sink (list_text rows) (first ++ rows_text rows) first (rows_text rows) _ fault.0 refl
    (nothing_yet g.K.Sink c.args.sink.now (list_text rows) (first ++ rows_text rows) (list_parts rows)) c.in_err-print_pieces.ensures)

pub returns : goal.returns
returns g c =
    let rows = c.args.rows.now in
    let first = codes "ok list " ++ (decimal (length rows) ++ 10 ∷ []) in
    let front = one_more g.K.Sink c.args.sink.now c.args.sink.now c.print_pieces.new.sink (list_text rows) (first ++ rows_text rows) first (rows_text rows) refl
    (nothing_yet g.K.Sink c.args.sink.now (list_text rows) (first ++ rows_text rows) (list_parts rows)) c.in_ok-print_pieces.ensures in
    last_part g.K.Sink c.args.sink.now c.print_pieces.new.sink c.print_rows.new.sink (list_text rows) (rows_text rows) c.print_rows.result front c.print_rows.ensures
