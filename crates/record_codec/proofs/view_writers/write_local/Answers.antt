use Rattle.record_fields.proofs.Written.{then}
use Rattle.record_codec.specs.Spelled.{local_field}
use Rattle.record_codec.proofs.view_writers.write_local.Goals as goal

pub returns : goal.returns
unfolding local_field
returns c =
    rw (← c.as_slice.ensures)
    (then c.write_name-next.ensures
    (then c.write_u64-next.ensures c.write_list.ensures))
