use Rattle.record_fields.proofs.Written.{then}
use Rattle.table_codec.specs.Spelled.{app_field}
use Rattle.table_codec.proofs.app_field.write_app.Goals as goal

pub returns : goal.returns
unfolding app_field
returns c =
    then c.write_key-next.ensures (then c.write_option-next.ensures c.write_rest.ensures)
