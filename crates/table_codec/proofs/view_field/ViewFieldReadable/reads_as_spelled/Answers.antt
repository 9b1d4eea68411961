use Rattle.std.proofs.Common.{arith}
use Rattle.record_codec.specs.declared.numbers.TheConstants.{COUNT_LIMIT}
use Rattle.record_codec.proofs.Records.{view_reads}
use Rattle.table_codec.proofs.view_field.ViewFieldReadable.reads_as_spelled.Goals as goal

pub returns : goal.returns
returns c = view_reads COUNT_LIMIT (omega arith)
