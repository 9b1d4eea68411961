use Rattle.std.proofs.Common.{arith}
use Rattle.small_types.specs.declared.limits.TheConstants.{FILE_COUNT_LIMIT, NAME_LIMIT}
use Rattle.record_fields.proofs.Lists.{list_reads}
use Rattle.record_fields.proofs.Structs.{text_reads}
use Rattle.record_fields.proofs.Together.{found_there, only_there}
use Rattle.record_fields.proofs.record_parts.read_texts.Goals as goal

pub returns-clause-found : goal.returns-clause-found
returns-clause-found c = found_there (list_reads (text_reads NAME_LIMIT (omega arith)) FILE_COUNT_LIMIT (omega arith)) c.args.bytes.now c.args.place c.list_here.result (λ i. omega (arith, c.type_inv.bytes i)) c.requires c.list_here.ensures.exact

pub returns-clause-only : goal.returns-clause-only
returns-clause-only c = only_there (list_reads (text_reads NAME_LIMIT (omega arith)) FILE_COUNT_LIMIT (omega arith)) c.args.bytes.now c.args.place c.list_here.result c.list_here.ensures.exact
