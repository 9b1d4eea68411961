use Rattle.std.specs.Ordering.{nat_cmp, on}
use Rattle.store_state.specs.declared.view.View.{View}
use Rattle.store_state.proofs.Orders.{RisesTo}
use Rattle.store_state.proofs.table_parts.views_rise.Given as goal

abbrev pub invariant-loop-place : goal.invariant-loop-place
invariant-loop-place l = RisesTo (on (λ (view : View). view.number) nat_cmp) l.views l.place
