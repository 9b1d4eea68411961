use Rattle.record_fields.proofs.Digests.{digest_reads}
use Rattle.record_fields.proofs.digest_readers.DigestFieldReadable.reads_as_spelled.Goals as goal

pub returns : goal.returns
returns c = digest_reads
