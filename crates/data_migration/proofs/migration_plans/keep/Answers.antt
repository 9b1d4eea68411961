use Rattle.std.proofs.Common.{◌∙◌, ap, sym, ℕ, List, true, cond, not, bytes_eq}
use Rattle.manifests.specs.Applications.{is_below_pre}
use Rattle.data_migration.specs.Tables.{has_name, stays_by}
use Rattle.data_migration.proofs.GrownTables.{kept_one, named}
use Rattle.data_migration.proofs.migration_plans.keep.Goals as goal

pub returns : goal.returns
returns c = λ name.
    named c.args.kept.now c.insert.new.self c.as_str.result c.in_ok-insert.ensures.updates name
    ∙ ap (λ (n : List ℕ). cond (bytes_eq n name) true (has_name c.args.kept.now name))
    c.as_str.ensures.value
    ∙ kept_one (has_name c.args.kept.now name) (bytes_eq c.args.file.now.name name)
    (not (is_below_pre c.args.file.now.name))
    (stays_by c.args.before.now c.args.after.now c.args.file.now.name)
    (sym c.is_outside.ensures ∙ c.if-not-is_outside.false)
    (sym c.stays.ensures ∙ c.if-not-stays.false)
