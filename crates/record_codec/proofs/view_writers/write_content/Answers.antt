use Rattle.record_codec.specs.Spelled.{content_field}
use Rattle.record_fields.proofs.Written.{then}
use Rattle.record_codec.proofs.view_writers.write_content.Goals as goal

pub returns : goal.returns
unfolding content_field
returns c =
    rw (← c.as_slice.ensures)
    (then c.write_u64-next.ensures
    (then c.write_digests-next.ensures c.write_list.ensures))
