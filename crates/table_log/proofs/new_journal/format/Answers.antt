use Rattle.std.proofs.Common.{◌∙◌}
use Rattle.table_log.proofs.Empty.{fits_each}
use Rattle.table_log.proofs.new_journal.format.Goals as goal

pub returns-clause-faults : goal.returns-clause-faults
returns-clause-faults g c =
    fits_each c.deref.result.now c.args.room.blocks c.args.room.half c.in-Err.fault (c.deref.ensures.value ∙ c.in_ok-text.ensures) c.requires c.in-Err.ensures.faults
