use Rattle.std.specs.Ordering.{nat_cmp, on}
use Rattle.machine.specs.declared.lease.Lease.{Lease}
use Rattle.store_state.proofs.Orders.{RisesTo}
use Rattle.store_state.proofs.table_parts.leases_rise.Given as goal

abbrev pub invariant-loop-place : goal.invariant-loop-place
invariant-loop-place l = RisesTo (on (λ (lease : Lease). lease.number) nat_cmp) l.leases l.place
