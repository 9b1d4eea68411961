use Rattle.record_fields.proofs.Records.{entry_reads}
use Rattle.record_fields.proofs.application_readers.EntryFieldReadable.reads_as_spelled.Goals as goal

pub returns : goal.returns
returns c = entry_reads
