use Rattle.record_fields.specs.Spelled.{entry_field}
use Rattle.record_fields.proofs.Written.{then}
use Rattle.record_fields.proofs.manifest_writers.write_entry.Goals as goal

pub returns : goal.returns
unfolding entry_field
returns c =
    then c.write_name-next.ensures
    (then c.write_u64-next.ensures
    (then c.write_digests-next.ensures
    (then c.write_option-next.ensures c.write_truth.ensures)))
