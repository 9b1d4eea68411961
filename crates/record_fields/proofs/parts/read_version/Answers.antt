use Rattle.std.proofs.Common.{arith}
use Rattle.record_fields.proofs.Structs.{version_reads}
use Rattle.record_fields.proofs.Together.{found_there, only_there}
use Rattle.record_fields.proofs.parts.read_version.Goals as goal

pub returns-clause-found : goal.returns-clause-found
returns-clause-found c = found_there version_reads c.args.bytes.now c.args.place c.version_here.result (λ i. omega (arith, c.type_inv.bytes i)) c.requires c.version_here.ensures.exact

pub returns-clause-only : goal.returns-clause-only
returns-clause-only c = only_there version_reads c.args.bytes.now c.args.place c.version_here.result c.version_here.ensures.exact
