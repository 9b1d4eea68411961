use Rattle.record_fields.proofs.Written.{then}
use Rattle.table_codec.specs.Spelled.{lease_field}
use Rattle.table_codec.proofs.lease_field.write_lease.Goals as goal

pub returns : goal.returns
unfolding lease_field
returns c = then c.write_u64-next.ensures c.write_u64.ensures
