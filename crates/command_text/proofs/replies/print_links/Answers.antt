use Rattle.std.proofs.Common.{◌∷◌, ◌++◌, [], refl}
use Rattle.std.proofs.lemmas.Result.{err_from_is_err_and}
use Rattle.command_text.specs.Lines.{lacking_text, links_text, reasons_text}
use Rattle.command_text.proofs.Wrote.{cut_off, last_part, nothing_yet, one_more}
use Rattle.command_text.proofs.replies.print_links.Goals as goal

pub returns-in_err-print_target : goal.returns-in_err-print_target
returns-in_err-print_target g c =
    let fault = err_from_is_err_and c.from_residual.result c.from_residual.ensures.1 in
    let whole = links_text c.args.target.now c.args.causes.now in
    rw fault.1 (cut_off g.K.Sink c.args.sink.now c.args.sink.now c.print_target.new.sink whole whole (lacking_text c.args.target.now) (reasons_text c.args.causes.now ++ 10 ∷ []) _ fault.0 refl (nothing_yet g.K.Sink c.args.sink.now whole whole refl) c.in_err-print_target.ensures)

pub returns-in_err-print_reasons : goal.returns-in_err-print_reasons
returns-in_err-print_reasons g c =
    let fault = err_from_is_err_and c.from_residual-in_err-print_reasons.result c.from_residual-in_err-print_reasons.ensures.1 in
    let whole = links_text c.args.target.now c.args.causes.now in
    let rest = reasons_text c.args.causes.now ++ 10 ∷ [] in
    let front = one_more g.K.Sink c.args.sink.now c.args.sink.now c.print_target.new.sink whole whole (lacking_text c.args.target.now) rest refl (nothing_yet g.K.Sink c.args.sink.now whole whole refl) c.in_ok-print_target.ensures in
    rw fault.1 (cut_off g.K.Sink c.args.sink.now c.print_target.new.sink c.print_reasons.new.sink whole rest (reasons_text c.args.causes.now) (10 ∷ []) _ fault.0 refl front c.in_err-print_reasons.ensures)

pub returns : goal.returns
returns g c =
    let whole = links_text c.args.target.now c.args.causes.now in
    let rest = reasons_text c.args.causes.now ++ 10 ∷ [] in
    let front = one_more g.K.Sink c.args.sink.now c.args.sink.now c.print_target.new.sink whole whole (lacking_text c.args.target.now) rest refl (nothing_yet g.K.Sink c.args.sink.now whole whole refl) c.in_ok-print_target.ensures in
    let middle = one_more g.K.Sink c.args.sink.now c.print_target.new.sink c.print_reasons.new.sink whole rest (reasons_text c.args.causes.now) (10 ∷ []) refl front c.in_ok-print_reasons.ensures in
    last_part g.K.Sink c.args.sink.now c.print_reasons.new.sink c.print_pieces.new.sink whole (10 ∷ []) c.print_pieces.result middle c.print_pieces.ensures
