use Rattle.table_codec.proofs.Tables.{app_reads}
use Rattle.table_codec.proofs.app_field.AppFieldReadable.reads_as_spelled.Goals as goal

pub returns : goal.returns
returns c = app_reads
