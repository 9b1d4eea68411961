use Rattle.std.proofs.Common.{◌∙◌, sym}
use Rattle.data_migration.proofs.GrownTables.{added}
use Rattle.data_migration.proofs.deployed_table.add.Goals as goal

pub returns : goal.returns
returns c =
    added c.args.table.now c.insert.new.self c.as_str-name.result c.args.entry
    c.in_ok-insert.ensures.updates c.as_str-name.ensures.value c.if-not-entry.false
    (sym c.contains_key.ensures ∙ c.if-contains_key.false)
