use Rattle.std.proofs.Common.{◌∙◌, ap, sym, drop, arith, List, ℕ}
use Rattle.std.proofs.lemmas.Result.{err_from_is_err_and}
use Rattle.std.proofs.lemmas.List.{drop_all}
use Rattle.causes.specs.declared.cause.Cause.{Cause}
use Rattle.command_text.specs.Lines.{reasons_text}
use Rattle.command_text.proofs.JoinedTexts.{all_left, none_left, one_item, rest_text}
use Rattle.command_text.proofs.Wrote.{all_written, cut_off, nothing_yet, one_more}
use Rattle.command_text.proofs.reasons.print_reasons.Goals as goal

pub loop-cause-init : goal.loop-cause-init
loop-cause-init g c =
    nothing_yet g.K.Sink c.args.sink.now (reasons_text c.args.causes.now) (rest_text c.as_slice-before.result.now c.args.causes.now)
    (all_left c.args.causes.now ∙ ap (λ (before : List ℕ). rest_text before c.args.causes.now) (sym c.as_slice-before.ensures))

pub returns-in_err-print_reason : goal.returns-in_err-print_reason
returns-in_err-print_reason g c =
    let fault = err_from_is_err_and c.from_residual.result c.from_residual.ensures.1 in
    let left = one_item c.loop-cause.before.now c.args.causes.now c.loop-cause.cause-index c.cause-item.result (omega arith) c.cause-item.is in
    rw fault.1 (cut_off g.K.Sink c.args.sink.now c.loop-cause.sink c.print_reason.new.sink _ _ _ _ _ fault.0 left c.loop-cause.invariant c.in_err-print_reason.ensures)

pub loop-cause-preserved : goal.loop-cause-preserved
loop-cause-preserved g c =
    let left = one_item c.loop-cause.before.now c.args.causes.now c.loop-cause.cause-index c.cause-item.result (omega arith) c.cause-item.is in
    one_more g.K.Sink c.args.sink.now c.loop-cause.sink c.print_reason.new.sink _ _ _ _ left c.loop-cause.invariant c.in_ok-print_reason.ensures

pub returns : goal.returns
returns g c =
    all_written g.K.Sink c.args.sink.now c.loop-cause.sink (reasons_text c.args.causes.now) (rest_text c.loop-cause.before.now (drop c.loop-cause.cause-index c.args.causes.now))
    (ap (λ (causes : List Cause). rest_text c.loop-cause.before.now causes) (drop_all c.loop-cause.cause-index c.args.causes.now c.loop-cause-test.false) ∙ none_left c.loop-cause.before.now) c.loop-cause.invariant
