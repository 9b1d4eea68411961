use Rattle.std.proofs.Common.{arith}
use Rattle.record_fields.proofs.Bytes.{name_reads}
use Rattle.record_fields.proofs.Together.{found_there, only_there}
use Rattle.record_fields.proofs.parts.read_name.Goals as goal

pub returns-clause-found : goal.returns-clause-found
returns-clause-found c = found_there name_reads c.args.bytes.now c.args.place c.name_here.result (λ i. omega (arith, c.type_inv.bytes i)) c.requires c.name_here.ensures.exact

pub returns-clause-only : goal.returns-clause-only
returns-clause-only c = only_there name_reads c.args.bytes.now c.args.place c.name_here.result c.name_here.ensures.exact
