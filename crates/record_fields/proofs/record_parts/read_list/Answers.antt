use Rattle.std.proofs.Common.{arith}
use Rattle.record_fields.proofs.Lists.{any_list_reads}
use Rattle.record_fields.proofs.Together.{found_there, only_there}
use Rattle.record_fields.proofs.record_parts.read_list.Goals as goal

pub returns-clause-found : goal.returns-clause-found
returns-clause-found g c = found_there (any_list_reads c.reads_as_spelled.ensures c.args.limit) c.args.bytes.now c.args.place c.list_here.result (λ i. omega (arith, c.type_inv.bytes i)) c.requires c.list_here.ensures.exact

pub returns-clause-only : goal.returns-clause-only
returns-clause-only g c = only_there (any_list_reads c.reads_as_spelled.ensures c.args.limit) c.args.bytes.now c.args.place c.list_here.result c.list_here.ensures.exact
