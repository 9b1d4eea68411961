use Rattle.jobs.proofs.BlockSums.{adds_up, one_list}
use Rattle.jobs.proofs.beside.blocks_are_counted.Goals as goal

pub returns-clause-sum : goal.returns-clause-sum
returns-clause-sum c = adds_up

pub returns-clause-one : goal.returns-clause-one
returns-clause-one c = one_list
