use Rattle.std.proofs.Common.{◌≡◌, take}
use Rattle.store_state.proofs.table_parts.lease_list.Given as goal

abbrev pub invariant-loop-lease : goal.invariant-loop-lease
invariant-loop-lease l = l.list ≡ take l.lease-index l.leases
