use Rattle.std.proofs.Common.{arith}
use Rattle.record_fields.proofs.Digests.{digests_reads}
use Rattle.record_fields.proofs.Together.{found_there, only_there}
use Rattle.record_fields.proofs.record_parts.read_digests.Goals as goal

pub returns-clause-found : goal.returns-clause-found
returns-clause-found c = found_there digests_reads c.args.bytes.now c.args.place c.digests_here.result (λ i. omega (arith, c.type_inv.bytes i)) c.requires c.digests_here.ensures.exact

pub returns-clause-only : goal.returns-clause-only
returns-clause-only c = only_there digests_reads c.args.bytes.now c.args.place c.digests_here.result c.digests_here.ensures.exact
