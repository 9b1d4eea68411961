use Rattle.record_fields.proofs.Structs.{target_reads}
use Rattle.table_codec.proofs.option_fields.TargetFieldReadable.reads_as_spelled.Goals as goal

pub returns : goal.returns
returns c = target_reads
