use Rattle.job_machine.proofs.Unchanged.{memory_same, refused_same}
use Rattle.job_machine.proofs.laws.job_refusals_change_nothing.Goals as goal

pub returns-clause-given : goal.returns-clause-given
returns-clause-given c = refused_same

pub returns-clause-memory : goal.returns-clause-memory
returns-clause-memory c = memory_same
