use Rattle.std.proofs.Common.{Err, ap, ◌∙◌}
use Rattle.table_log.proofs.FoundTables.{none_spelled, spelled}
use Rattle.table_log.proofs.replay.base_of.Goals as goal

pub returns-in-Ok : goal.returns-in-Ok
returns-in-Ok c = spelled c.args.text.now c.in-Ok.state c.in-Ok.ensures.found

pub returns-in-Err-Bad : goal.returns-in-Err-Bad
returns-in-Err-Bad c = none_spelled c.args.text.now c.decode_state.result c.in-Err-Bad.field-0-0 (c.in-Err-Bad.is ∙ ap Err c.in-Err-Bad.field-0-is) c.decode_state.ensures.only
