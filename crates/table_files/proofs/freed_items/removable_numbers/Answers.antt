use Rattle.std.proofs.Common.{subst, sym}
use Rattle.std.specs.List.Sorted.{IsSorted}
use Rattle.std.specs.Ordering.{nat_cmp}
use Rattle.machine.specs.Store.{plain_room}
use Rattle.table_files.proofs.ContentSearch.{removable_sorted}
use Rattle.table_files.proofs.freed_items.removable_numbers.Goals as goal

pub returns-in-Ok-clause-order : goal.returns-in-Ok-clause-order
returns-in-Ok-clause-order c =
    subst (IsSorted nat_cmp) (sym (c.in-Ok.ensures (plain_room 0)))
    (removable_sorted (plain_room 0) c.args.state.now c.are_tables.ensures)
