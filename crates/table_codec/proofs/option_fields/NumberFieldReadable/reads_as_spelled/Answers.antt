use Rattle.record_fields.proofs.Structs.{number64_reads}
use Rattle.table_codec.proofs.option_fields.NumberFieldReadable.reads_as_spelled.Goals as goal

pub returns : goal.returns
returns c = number64_reads
