use Rattle.std.proofs.Common.{arith}
use Rattle.record_fields.proofs.Structs.{any_text_reads}
use Rattle.record_fields.proofs.Together.{found_there, only_there}
use Rattle.record_fields.proofs.parts.read_text.Goals as goal

pub returns-clause-found : goal.returns-clause-found
returns-clause-found c = found_there (any_text_reads c.args.limit) c.args.bytes.now c.args.place c.text_here.result (λ i. omega (arith, c.type_inv.bytes i)) c.requires c.text_here.ensures.exact

pub returns-clause-only : goal.returns-clause-only
returns-clause-only c = only_there (any_text_reads c.args.limit) c.args.bytes.now c.args.place c.text_here.result c.text_here.ensures.exact
