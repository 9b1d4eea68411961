use Rattle.std.proofs.Common.{arith}
use Rattle.record_fields.proofs.Forms.{byte_reads}
use Rattle.record_fields.proofs.Together.{stands_there, only_there}
use Rattle.record_fields.proofs.parts.read_u8.Goals as goal

pub returns-clause-found : goal.returns-clause-found
returns-clause-found c = stands_there byte_reads c.args.bytes.now c.args.place c.byte_here.result (λ i. omega (arith, c.type_inv.bytes i)) c.requires c.byte_here.ensures.exact

pub returns-clause-only : goal.returns-clause-only
returns-clause-only c = only_there byte_reads c.args.bytes.now c.args.place c.byte_here.result c.byte_here.ensures.exact
