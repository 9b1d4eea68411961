use Rattle.record_fields.specs.Spelled.{digest_field}
use Rattle.record_fields.proofs.Written.{then}
use Rattle.record_fields.proofs.manifest_writers.write_digest.Goals as goal

pub returns : goal.returns
unfolding digest_field
returns c =
    rw (← c.number_of.ensures.number, ← c.as_slice.ensures)
    (then c.write_u8-next.ensures c.write_bytes.ensures)
