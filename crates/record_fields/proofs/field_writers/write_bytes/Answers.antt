use Rattle.record_fields.specs.Fields.{text_field}
use Rattle.record_fields.proofs.Written.{then}
use Rattle.record_fields.proofs.field_writers.write_bytes.Goals as goal

pub returns : goal.returns
unfolding text_field
returns c = then c.write_u32-start.ensures c.put.ensures
