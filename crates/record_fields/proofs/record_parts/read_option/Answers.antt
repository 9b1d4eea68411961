use Rattle.std.proofs.Common.{arith}
use Rattle.record_fields.proofs.Lists.{option_reads}
use Rattle.record_fields.proofs.Together.{found_there, only_there}
use Rattle.record_fields.proofs.record_parts.read_option.Goals as goal

pub returns-clause-found : goal.returns-clause-found
returns-clause-found g c = found_there (option_reads c.reads_as_spelled.ensures) c.args.bytes.now c.args.place c.option_here.result (λ i. omega (arith, c.type_inv.bytes i)) c.requires c.option_here.ensures.exact

pub returns-clause-only : goal.returns-clause-only
returns-clause-only g c = only_there (option_reads c.reads_as_spelled.ensures) c.args.bytes.now c.args.place c.option_here.result c.option_here.ensures.exact
