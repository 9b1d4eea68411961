use Rattle.table_codec.proofs.Encodable.{are_encodable, stay_encodable}
use Rattle.table_codec.proofs.laws.changes_stay_encodable.Goals as goal

pub returns-clause-stay : goal.returns-clause-stay
returns-clause-stay c = stay_encodable

pub returns-clause-are : goal.returns-clause-are
returns-clause-are c = are_encodable
