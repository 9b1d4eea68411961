use Rattle.machine.proofs.OneMigration.{migration, one_migration}
use Rattle.machine.proofs.install_laws.migrations_are_one.Goals as goal

pub returns-clause-one : goal.returns-clause-one
returns-clause-one c = one_migration

pub returns-clause-exist : goal.returns-clause-exist
returns-clause-exist c = migration
