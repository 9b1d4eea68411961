use Rattle.std.proofs.Common.{arith}
use Rattle.record_codec.proofs.Records.{view_reads}
use Rattle.record_fields.proofs.Together.{found_there, only_there}
use Rattle.record_codec.proofs.view_parts.read_view.Goals as goal

pub returns-clause-found : goal.returns-clause-found
returns-clause-found c = found_there (view_reads c.args.most c.requires.count) c.args.bytes.now c.args.place c.view_here.result (λ i. omega (arith, c.type_inv.bytes i)) c.requires.place c.view_here.ensures.exact

pub returns-clause-only : goal.returns-clause-only
returns-clause-only c = only_there (view_reads c.args.most c.requires.count) c.args.bytes.now c.args.place c.view_here.result c.view_here.ensures.exact
