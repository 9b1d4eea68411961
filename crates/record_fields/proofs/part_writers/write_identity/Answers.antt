use Rattle.record_fields.specs.Spelled.{identity_field}
use Rattle.record_fields.proofs.Written.{then}
use Rattle.record_fields.proofs.part_writers.write_identity.Goals as goal

pub returns : goal.returns
unfolding identity_field
returns c = then c.write_key-next.ensures (then c.write_version-next.ensures c.write_text.ensures)
