use Rattle.std.proofs.Common.{◌≡◌, ℕ, List, drop}
use Rattle.std.specs.Option.{option_or}
use Rattle.machine.specs.Migrated.{deployed}
use Rattle.data_migration.specs.Tables.{entry_at}
use Rattle.data_migration.proofs.deployed_table.deployed.Given as goal

-- what the table has, and else what is left has
abbrev pub invariant-loop-entry : goal.invariant-loop-entry
invariant-loop-entry l = (name : List ℕ) → option_or (entry_at l.table name)
    (deployed (drop l.entry-index l.files) name) ≡ deployed l.files name
