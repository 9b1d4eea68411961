use Rattle.std.proofs.Common.{◌∙◌, sym}
use Rattle.data_migration.proofs.AsideNames.{outside_from}
use Rattle.data_migration.proofs.migration_plans.add_old.Goals as goal

pub carry-requires : goal.carry-requires
carry-requires c =
    c.requires
    (outside_from c.args.file.now.name (sym c.is_outside.ensures ∙ c.if-not-is_outside.false))
