use Rattle.record_fields.specs.Spelled.{rule_field}
use Rattle.record_fields.proofs.Written.{then}
use Rattle.record_fields.proofs.part_writers.write_rule.Goals as goal

pub returns-in-Age : goal.returns-in-Age
unfolding rule_field
returns-in-Age c = rw c.in-Age.is (then c.write_u8-next.ensures c.write_u64.ensures)
