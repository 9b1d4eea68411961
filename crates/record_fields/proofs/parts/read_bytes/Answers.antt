use Rattle.std.proofs.Common.{arith}
use Rattle.record_fields.proofs.Bytes.{any_bytes_reads}
use Rattle.record_fields.proofs.Together.{found_there, only_there}
use Rattle.record_fields.proofs.parts.read_bytes.Goals as goal

pub returns-clause-found : goal.returns-clause-found
returns-clause-found c = found_there (any_bytes_reads c.args.limit) c.args.bytes.now c.args.place c.bytes_here.result (λ i. omega (arith, c.type_inv.bytes i)) c.requires c.bytes_here.ensures.exact

pub returns-clause-only : goal.returns-clause-only
returns-clause-only c = only_there (any_bytes_reads c.args.limit) c.args.bytes.now c.args.place c.bytes_here.result c.bytes_here.ensures.exact
