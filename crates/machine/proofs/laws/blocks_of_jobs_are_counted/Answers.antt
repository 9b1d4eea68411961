use Rattle.machine.proofs.CountedBlocks.{counted_more, counted_without_jobs}
use Rattle.machine.proofs.laws.blocks_of_jobs_are_counted.Goals as goal

pub returns-clause-none : goal.returns-clause-none
returns-clause-none c = counted_without_jobs

pub returns-clause-more : goal.returns-clause-more
returns-clause-more c = counted_more
