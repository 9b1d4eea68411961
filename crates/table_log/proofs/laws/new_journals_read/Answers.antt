use Rattle.table_log.proofs.Images.{new_reads, none_reads}
use Rattle.table_log.proofs.laws.new_journals_read.Goals as goal

pub returns-clause-new : goal.returns-clause-new
returns-clause-new c = new_reads

pub returns-clause-none : goal.returns-clause-none
returns-clause-none c = none_reads
