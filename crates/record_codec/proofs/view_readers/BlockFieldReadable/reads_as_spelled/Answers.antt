use Rattle.record_codec.proofs.Records.{block_reads}
use Rattle.record_codec.proofs.view_readers.BlockFieldReadable.reads_as_spelled.Goals as goal

pub returns : goal.returns
returns c = block_reads
