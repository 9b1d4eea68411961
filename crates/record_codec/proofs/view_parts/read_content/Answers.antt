use Rattle.std.proofs.Common.{arith}
use Rattle.record_codec.proofs.Records.{content_reads}
use Rattle.record_fields.proofs.Together.{found_there, only_there}
use Rattle.record_codec.proofs.view_parts.read_content.Goals as goal

pub returns-clause-found : goal.returns-clause-found
returns-clause-found c = found_there content_reads c.args.bytes.now c.args.place c.read_here.result (λ i. omega (arith, c.type_inv.bytes i)) c.requires c.read_here.ensures.exact

pub returns-clause-only : goal.returns-clause-only
returns-clause-only c = only_there content_reads c.args.bytes.now c.args.place c.read_here.result c.read_here.ensures.exact
