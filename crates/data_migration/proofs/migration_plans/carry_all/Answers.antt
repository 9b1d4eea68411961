use Rattle.store_state.specs.declared.view.LocalFile.{LocalFile}
use Rattle.data_migration.specs.Plans.{carried}
use Rattle.data_migration.specs.Tables.{stays_by}
use Rattle.data_migration.proofs.ListLoops.{flat_step}
use Rattle.data_migration.proofs.migration_plans.carry_all.Goals as goal

pub loop-file-preserved : goal.loop-file-preserved
loop-file-preserved c =
    flat_step c.args.old.now c.loop-file.file-index c.file-item.result c.loop-file-test.true
    c.file-item.is
    (λ (file : LocalFile). carried (stays_by c.args.before.now c.args.after.now) file.name)
    c.loop-file.plans.items c.add_old.new.plans.items _ c.in_ok-add_old.ensures
    c.loop-file.invariant
