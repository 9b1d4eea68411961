use Rattle.std.proofs.Common.{arith}
use Rattle.record_fields.proofs.Forms.{truth_reads}
use Rattle.record_fields.proofs.Together.{stands_there, only_there}
use Rattle.record_fields.proofs.parts.read_truth.Goals as goal

pub returns-clause-found : goal.returns-clause-found
returns-clause-found c = stands_there truth_reads c.args.bytes.now c.args.place c.truth_here.result (λ i. omega (arith, c.type_inv.bytes i)) c.requires c.truth_here.ensures.exact

pub returns-clause-only : goal.returns-clause-only
returns-clause-only c = λ x next stands. only_there truth_reads c.args.bytes.now c.args.place c.truth_here.result c.truth_here.ensures.exact x next tt stands
