use Rattle.record_fields.proofs.Written.{then}
use Rattle.record_fields.proofs.item.write_option.Goals as goal

pub returns-in-Some : goal.returns-in-Some
returns-in-Some g c = rw c.in-Some.is (then c.write_u8-next.ensures c.write_item.ensures)
