use Rattle.std.specs.Ordering.{on}
use Rattle.identity.specs.Printed.{text_cmp}
use Rattle.store_state.specs.declared.view.LocalFile.{LocalFile}
use Rattle.store_state.proofs.Orders.{RisesTo}
use Rattle.store_state.proofs.fields.are_in_order.Given as goal

abbrev pub invariant-loop-place : goal.invariant-loop-place
invariant-loop-place l = RisesTo (on (λ (file : LocalFile). file.name) text_cmp) l.files l.place
