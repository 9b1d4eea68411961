use Rattle.record_fields.specs.Spelled.{listed_field}
use Rattle.record_fields.proofs.Written.{then}
use Rattle.record_fields.proofs.manifest_writers.write_listed.Goals as goal

pub returns : goal.returns
unfolding listed_field
returns c =
    then c.write_text-next.ensures
    (then c.write_identity-next.ensures
    (then c.write_u64-next.ensures c.write_digests.ensures))
