use Rattle.record_codec.specs.Spelled.{view_field}
use Rattle.record_fields.proofs.Written.{then}
use Rattle.record_codec.proofs.view_writers.write_view.Goals as goal

pub returns : goal.returns
unfolding view_field
returns c =
    rw (← c.as_slice.ensures, ← c.as_slice-2.ensures)
    (then c.write_u64-next.ensures
    (then c.write_deployment-next.ensures
    (then c.write_application-next.ensures
    (then c.write_target-next.ensures
    (then c.write_list-next.ensures c.write_list.ensures)))))
