use Rattle.record_codec.proofs.Records.{content_reads}
use Rattle.record_codec.proofs.view_readers.ContentFieldReadable.reads_as_spelled.Goals as goal

pub returns : goal.returns
returns c = content_reads
