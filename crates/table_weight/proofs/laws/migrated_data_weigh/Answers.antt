use Rattle.table_weight.proofs.MigratedLocals.{migrated_weigh}
use Rattle.table_weight.proofs.laws.migrated_data_weigh.Goals as goal

pub returns : goal.returns
returns c = migrated_weigh
