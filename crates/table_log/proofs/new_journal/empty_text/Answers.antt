use Rattle.std.proofs.Common.{arith}
use Rattle.table_log.proofs.Empty.{short_as}
use Rattle.table_log.proofs.new_journal.empty_text.Goals as goal

pub encoded_length_of_state-size-requires : goal.encoded_length_of_state-size-requires
encoded_length_of_state-size-requires c = let short = short_as c.in-Ok.state c.in-Ok.ensures in omega (arith, short)
