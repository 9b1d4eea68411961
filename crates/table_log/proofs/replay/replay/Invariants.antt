use Rattle.table_log.proofs.LoadedTables.{LeadsOn}
use Rattle.table_log.proofs.replay.replay.Given as goal

abbrev pub invariant-loop-change : goal.invariant-loop-change
invariant-loop-change l = LeadsOn l.changes l.change-index l.initial.state l.state
