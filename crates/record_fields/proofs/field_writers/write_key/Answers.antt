use Rattle.record_fields.specs.Fields.{key_field}
use Rattle.record_fields.proofs.Written.{then}
use Rattle.record_fields.proofs.field_writers.write_key.Goals as goal

pub returns : goal.returns
unfolding key_field
returns c =
    then c.write_text-next.ensures
    (then c.write_text-next-2.ensures
    (then c.write_text-next-3.ensures c.write_text.ensures))
