use Rattle.record_fields.proofs.Structs.{part_text_reads}
use Rattle.record_fields.proofs.readable.TextFieldReadable.reads_as_spelled.Goals as goal

pub returns : goal.returns
returns c = part_text_reads
