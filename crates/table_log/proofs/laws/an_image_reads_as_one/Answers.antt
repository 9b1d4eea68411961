use Rattle.table_log.proofs.Images.{one_read, reads_outside}
use Rattle.table_log.proofs.laws.an_image_reads_as_one.Goals as goal

pub returns-clause-one : goal.returns-clause-one
returns-clause-one c = one_read c.tables_are_spelled_once.ensures

pub returns-clause-limits : goal.returns-clause-limits
returns-clause-limits c = λ room image tables reads. reads.journal.stands.limits

pub returns-clause-outside : goal.returns-clause-outside
returns-clause-outside c = reads_outside
