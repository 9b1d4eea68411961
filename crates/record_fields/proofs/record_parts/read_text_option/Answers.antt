use Rattle.std.proofs.Common.{arith}
use Rattle.record_fields.proofs.Lists.{option_reads}
use Rattle.record_fields.proofs.Structs.{text_reads}
use Rattle.record_fields.proofs.Together.{found_there, only_there}
use Rattle.record_fields.proofs.record_parts.read_text_option.Goals as goal

pub returns-clause-found : goal.returns-clause-found
returns-clause-found c = found_there (option_reads (text_reads c.args.limit c.requires.limit)) c.args.bytes.now c.args.place c.text_option_here.result (λ i. omega (arith, c.type_inv.bytes i)) c.requires.place c.text_option_here.ensures.exact

pub returns-clause-only : goal.returns-clause-only
returns-clause-only c = only_there (option_reads (text_reads c.args.limit c.requires.limit)) c.args.bytes.now c.args.place c.text_option_here.result c.text_option_here.ensures.exact
