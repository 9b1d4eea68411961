use Rattle.std.proofs.Common.{drop}
use Rattle.command_text.specs.Applications.{rows_text}
use Rattle.command_text.proofs.Wrote.{Wrote}
use Rattle.command_text.proofs.app_replies.print_rows.Given as goal

abbrev pub invariant-loop-row : goal.invariant-loop-row
invariant-loop-row g l = Wrote g.K.Sink l.initial.sink l.sink (rows_text l.rows) (rows_text (drop l.row-index l.rows))
