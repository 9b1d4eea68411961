use Rattle.store_state.specs.declared.view.LocalFile.{LocalFile}
use Rattle.data_migration.specs.Plans.{is_kept}
use Rattle.data_migration.specs.Tables.{has_name, stays_by}
use Rattle.data_migration.proofs.ListLoops.{any_step}
use Rattle.data_migration.proofs.migration_plans.kept_names.Goals as goal

pub loop-file-preserved : goal.loop-file-preserved
loop-file-preserved c = λ name.
    any_step c.args.old.now c.loop-file.file-index c.file-item.result c.loop-file-test.true
    c.file-item.is
    (λ (file : LocalFile). is_kept (stays_by c.args.before.now c.args.after.now) name file.name)
    (has_name c.loop-file.kept name) (has_name c.keep.new.kept name) _
    (c.in_ok-keep.ensures name) (c.loop-file.invariant name)
