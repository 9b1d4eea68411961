use Rattle.std.proofs.Common.{◌-◌, arith, refl}
use Rattle.std.specs.Ordering.{nat_cmp, on}
use Rattle.std.proofs.lemmas.Cmp.{nat_cmp_total, on_total}
use Rattle.machine.specs.declared.lease.Lease.{Lease}
use Rattle.store_state.proofs.Orders.{pairs_rise}
use Rattle.store_state.proofs.table_parts.leases_rise.Goals as goal

pub returns-then-not-is_lease_before : goal.returns-then-not-is_lease_before
returns-then-not-is_lease_before c = (
  λ no. absurd cc,
  λ pairs. absurd (
      let less = c.is_lease_before.ensures.1
      (pairs (c.loop-place.place - 1) c.loop-place.place _ (omega arith) c.loop-place-test.true) in
      grind (arith, less)
      ),
)

pub returns : goal.returns
returns c = (
  λ done. pairs_rise (on (λ (lease : Lease). lease.number) nat_cmp)
      (on_total (λ (lease : Lease). lease.number) nat_cmp_total) c.args.leases.now
      (λ k d within. c.loop-place.invariant k d (omega arith)),
  λ pairs. refl,
)
