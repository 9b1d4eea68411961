use Rattle.std.proofs.Common.{refl}
use Rattle.std.proofs.lemmas.Result.{err_from_is_err_and}
use Rattle.command_text.proofs.ShowParts.{key_shown, show_begun, state_shown, versions_shown}
use Rattle.command_text.proofs.Wrote.{cut_off, last_part}
use Rattle.command_text.proofs.app_replies.print_show.Goals as goal

pub returns-in_err-print_key : goal.returns-in_err-print_key
returns-in_err-print_key g c =
    let fault = err_from_is_err_and c.from_residual.result c.from_residual.ensures.1 in
    let begun = show_begun g.K.Sink c.args.sink.now c.args.row.now in
    rw fault.1 (cut_off g.K.Sink c.args.sink.now c.args.sink.now c.print_key.new.sink _ _ _ _ _ fault.0 refl begun c.in_err-print_key.ensures)

pub returns-in_err-print_versions : goal.returns-in_err-print_versions
returns-in_err-print_versions g c =
    let fault = err_from_is_err_and c.from_residual-in_err-print_versions.result c.from_residual-in_err-print_versions.ensures.1 in
    let key = key_shown g.K.Sink c.args.sink.now c.args.row.now c.print_key.new.sink c.in_ok-print_key.ensures in
    rw fault.1 (cut_off g.K.Sink c.args.sink.now c.print_key.new.sink c.print_versions.new.sink _ _ _ _ _ fault.0 refl key c.in_err-print_versions.ensures)

pub returns-in_err-print_state : goal.returns-in_err-print_state
returns-in_err-print_state g c =
    let fault = err_from_is_err_and c.from_residual-in_err-print_state.result c.from_residual-in_err-print_state.ensures.1 in
    let key = key_shown g.K.Sink c.args.sink.now c.args.row.now c.print_key.new.sink c.in_ok-print_key.ensures in
    let versions = versions_shown g.K.Sink c.args.sink.now c.args.row.now c.print_key.new.sink c.print_versions.new.sink key c.in_ok-print_versions.ensures in
    rw fault.1 (cut_off g.K.Sink c.args.sink.now c.print_versions.new.sink c.print_state.new.sink _ _ _ _ _ fault.0 refl versions c.in_err-print_state.ensures)

pub returns : goal.returns
returns g c =
    let key = key_shown g.K.Sink c.args.sink.now c.args.row.now c.print_key.new.sink c.in_ok-print_key.ensures in
    let versions = versions_shown g.K.Sink c.args.sink.now c.args.row.now c.print_key.new.sink c.print_versions.new.sink key c.in_ok-print_versions.ensures in
    let state = state_shown g.K.Sink c.args.sink.now c.args.row.now c.print_versions.new.sink c.print_state.new.sink versions c.in_ok-print_state.ensures in
    last_part g.K.Sink c.args.sink.now c.print_state.new.sink c.print_provider.new.sink _ _ c.print_provider.result state c.print_provider.ensures
