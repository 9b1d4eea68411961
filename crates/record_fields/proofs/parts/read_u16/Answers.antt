use Rattle.std.proofs.Common.{arith}
use Rattle.record_fields.proofs.Structs.{number16_reads}
use Rattle.record_fields.proofs.Together.{stands_there, only_there}
use Rattle.record_fields.proofs.parts.read_u16.Goals as goal

pub returns-clause-found : goal.returns-clause-found
returns-clause-found c = stands_there number16_reads c.args.bytes.now c.args.place c.u16_here.result (λ i. omega (arith, c.type_inv.bytes i)) c.requires c.u16_here.ensures.exact

pub returns-clause-only : goal.returns-clause-only
returns-clause-only c = only_there number16_reads c.args.bytes.now c.args.place c.u16_here.result c.u16_here.ensures.exact
