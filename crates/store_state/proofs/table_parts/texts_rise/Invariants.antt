use Rattle.identity.specs.Printed.{text_cmp}
use Rattle.store_state.proofs.Orders.{RisesTo}
use Rattle.store_state.proofs.table_parts.texts_rise.Given as goal

abbrev pub invariant-loop-place : goal.invariant-loop-place
invariant-loop-place l = RisesTo text_cmp l.texts l.place
