use Rattle.record_codec.proofs.Records.{local_reads}
use Rattle.record_codec.proofs.view_readers.LocalFieldReadable.reads_as_spelled.Goals as goal

pub returns : goal.returns
returns c = local_reads
