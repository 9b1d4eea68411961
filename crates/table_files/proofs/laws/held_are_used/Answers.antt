use Rattle.table_files.proofs.HeldBlocks.{held_used}
use Rattle.table_files.proofs.laws.held_are_used.Goals as goal

pub returns : goal.returns
returns c = held_used
