use Rattle.std.proofs.Common.{arith}
use Rattle.record_fields.proofs.Rules.{rule_reads}
use Rattle.record_fields.proofs.Together.{found_there, only_there}
use Rattle.record_fields.proofs.parts.read_rule.Goals as goal

pub returns-clause-found : goal.returns-clause-found
returns-clause-found c = found_there rule_reads c.args.bytes.now c.args.place c.rule_here.result (λ i. omega (arith, c.type_inv.bytes i)) c.requires c.rule_here.ensures.exact

pub returns-clause-only : goal.returns-clause-only
returns-clause-only c = only_there rule_reads c.args.bytes.now c.args.place c.rule_here.result c.rule_here.ensures.exact
