use Rattle.std.proofs.Common.{Err, ap, ◌∙◌}
use Rattle.table_log.proofs.LoadedTables.{none_read, tried}
use Rattle.table_log.proofs.replay.replay_one.Goals as goal

pub returns-in-Ok : goal.returns-in-Ok
returns-in-Ok c = tried c.args.text.now c.args.state.now c.make_fitting.new.state c.decode_change.result c.in-Ok.change c.make_fitting.result c.in-Ok.is c.decode_change.ensures.found c.decode_change.ensures.only c.make_fitting.ensures

pub returns-in-Err-Bad : goal.returns-in-Err-Bad
returns-in-Err-Bad c = none_read c.args.text.now c.args.state.now c.decode_change.result c.in-Err-Bad.field-0-0 (c.in-Err-Bad.is ∙ ap Err c.in-Err-Bad.field-0-is) c.decode_change.ensures.only
