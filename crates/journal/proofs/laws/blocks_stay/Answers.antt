use Rattle.journal.proofs.Blocks.{behind_same, append_within, checkpoint_within}
use Rattle.journal.proofs.laws.blocks_stay.Goals as goal

pub returns-clause-stays : goal.returns-clause-stays
returns-clause-stays c = λ place n half from size old new before late agrees. behind_same place n half from size old new before late agrees

pub returns-clause-append : goal.returns-clause-append
returns-clause-append c = append_within

pub returns-clause-checkpoint : goal.returns-clause-checkpoint
returns-clause-checkpoint c = checkpoint_within
