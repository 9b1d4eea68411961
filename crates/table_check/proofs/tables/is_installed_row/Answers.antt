use Rattle.small_types.specs.declared.limits.TheConstants.{NAME_LIMIT}
use Rattle.machine.specs.Fields.{IsShort}
use Rattle.table_check.proofs.EqualLists.{told_of}
use Rattle.table_check.proofs.tables.is_installed_row.Goals as goal

pub returns-then-is_installed : goal.returns-then-is_installed
returns-then-is_installed c =
    let own = c.is_installed.ensures.0 c.if-is_installed.true in
    let short = told_of (IsShort NAME_LIMIT) c.as_slice.result.now c.args.view.now.groups
    c.are_short.result c.as_slice.ensures c.are_short.ensures in (
      λ yes. record { groups = short.0 yes; installed = own },
      λ row. short.1 row.groups,
    )
