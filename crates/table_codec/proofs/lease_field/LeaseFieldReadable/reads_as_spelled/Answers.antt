use Rattle.table_codec.proofs.Tables.{lease_reads}
use Rattle.table_codec.proofs.lease_field.LeaseFieldReadable.reads_as_spelled.Goals as goal

pub returns : goal.returns
returns c = lease_reads
