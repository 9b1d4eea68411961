use Rattle.std.proofs.Common.{arith}
use Rattle.record_fields.proofs.Structs.{target_reads}
use Rattle.record_fields.proofs.Together.{found_there, only_there}
use Rattle.record_fields.proofs.parts.read_target.Goals as goal

pub returns-clause-found : goal.returns-clause-found
returns-clause-found c = found_there target_reads c.args.bytes.now c.args.place c.target_here.result (λ i. omega (arith, c.type_inv.bytes i)) c.requires c.target_here.ensures.exact

pub returns-clause-only : goal.returns-clause-only
returns-clause-only c = only_there target_reads c.args.bytes.now c.args.place c.target_here.result c.target_here.ensures.exact
