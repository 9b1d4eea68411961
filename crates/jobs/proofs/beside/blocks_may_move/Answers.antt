use Rattle.jobs.proofs.MovedBlocks.{moved_sound, slots_turn}
use Rattle.jobs.proofs.beside.blocks_may_move.Goals as goal

pub returns-clause-blocks : goal.returns-clause-blocks
returns-clause-blocks c = moved_sound

pub returns-clause-slots : goal.returns-clause-slots
returns-clause-slots c = slots_turn
