use Rattle.record_fields.proofs.Written.{then}
use Rattle.table_codec.specs.Spelled.{rest_field}
use Rattle.table_codec.proofs.app_field.write_rest.Goals as goal

pub returns : goal.returns
unfolding rest_field
returns c =
    then c.write_option-next.ensures
    (then c.write_option-next-2.ensures
    (then c.write_option-next-3.ensures
    (then c.write_option-next-4.ensures
    (then c.write_option-next-5.ensures
    (then c.write_option-next-6.ensures
    (then c.write_option-next-7.ensures c.write_truth.ensures))))))
