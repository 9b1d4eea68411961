use Rattle.store_state.proofs.MeasuredTables.{empty_measured, measured_stay}
use Rattle.store_state.proofs.laws.measured_tables_stay.Goals as goal

pub returns-clause-changed : goal.returns-clause-changed
returns-clause-changed c = measured_stay

pub returns-clause-empty : goal.returns-clause-empty
returns-clause-empty c = empty_measured
