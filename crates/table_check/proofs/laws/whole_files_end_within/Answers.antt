use Rattle.table_check.proofs.BlockEnds.{exactly_within}
use Rattle.table_check.proofs.laws.whole_files_end_within.Goals as goal

pub returns : goal.returns
returns c = exactly_within
