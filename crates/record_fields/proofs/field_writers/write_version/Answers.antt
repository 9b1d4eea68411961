use Rattle.record_fields.specs.Fields.{version_field}
use Rattle.record_fields.proofs.Written.{then}
use Rattle.record_fields.proofs.field_writers.write_version.Goals as goal

pub returns : goal.returns
unfolding version_field
returns c =
    then c.write_u16-next.ensures
    (then c.write_u16-next-2.ensures
    (then c.write_u16-next-3.ensures c.write_u16.ensures))
