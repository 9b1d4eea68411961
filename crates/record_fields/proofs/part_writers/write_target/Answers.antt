use Rattle.record_fields.specs.Spelled.{target_field}
use Rattle.record_fields.proofs.Written.{then}
use Rattle.record_fields.proofs.part_writers.write_target.Goals as goal

pub returns : goal.returns
unfolding target_field
returns c = then c.write_text-next.ensures (then c.write_u16-next.ensures c.write_text.ensures)
