use Rattle.table_codec.proofs.ChangedFields.{fields_stay}
use Rattle.table_codec.proofs.Fields.{have_fields}
use Rattle.table_codec.proofs.laws.fields_stay_encodable.Goals as goal

pub returns-clause-stay : goal.returns-clause-stay
returns-clause-stay c = fields_stay

pub returns-clause-had : goal.returns-clause-had
returns-clause-had c = have_fields
