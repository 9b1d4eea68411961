use Rattle.std.proofs.Common.{◌∙◌, ap, sym}
use Rattle.std.proofs.lemmas.Bool.{eqb-true}
use Rattle.std.proofs.lemmas.Result.{err_from_is_err_and}
use Rattle.hex.specs.Hex.{encode_lower}
use Rattle.command_text.proofs.JoinedTexts.{hex_append, hex_over}
use Rattle.command_text.proofs.Wrote.{all_written, cut_off, one_more}
use Rattle.command_text.proofs.raw.print_hex.Goals as goal

pub returns-in_err-print_few : goal.returns-in_err-print_few
returns-in_err-print_few g c =
    let fault = err_from_is_err_and c.from_residual.result c.from_residual.ensures.1 in
    let cut = c.split_at.result in
    let parts = ap encode_lower c.split_at.ensures.by_index.0 ∙ hex_append cut.0.now cut.1.now in
    rw fault.1 (cut_off g.K.Sink c.args.sink.now c.loop-rest.sink c.print_few.new.sink _ _ _ _ _
    fault.0 parts c.loop-rest.invariant c.in_err-print_few.ensures)

pub loop-rest-preserved : goal.loop-rest-preserved
loop-rest-preserved g c =
    let cut = c.split_at.result in
    let parts = ap encode_lower c.split_at.ensures.by_index.0 ∙ hex_append cut.0.now cut.1.now in
    one_more g.K.Sink c.args.sink.now c.loop-rest.sink c.print_few.new.sink _ _ _ _
    parts c.loop-rest.invariant c.in_ok-print_few.ensures

pub returns : goal.returns
returns g c =
    let over = eqb-true _ 0 (sym c.loop-rest-test.ensures) in
    all_written g.K.Sink c.args.sink.now c.loop-rest.sink (encode_lower c.args.bytes.now)
    (encode_lower c.loop-rest.rest.now) (hex_over c.loop-rest.rest.now over) c.loop-rest.invariant
