use Rattle.record_fields.specs.Spelled.{application_field}
use Rattle.record_fields.proofs.Written.{then}
use Rattle.record_fields.proofs.manifest_writers.write_application.Goals as goal

pub returns : goal.returns
unfolding application_field
returns c =
    rw (← c.as_slice.ensures)
    (then c.write_identity-next.ensures
    (then c.write_text-next.ensures
    (then c.write_text-next-2.ensures c.write_list.ensures)))
