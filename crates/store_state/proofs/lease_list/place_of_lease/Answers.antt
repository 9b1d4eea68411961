use Rattle.std.proofs.Common.{rules}
use Rattle.std.specs.Ordering.{nat_cmp}
use Rattle.std.proofs.lemmas.Fn.{always_returns_same}
use Rattle.machine.specs.declared.lease.Lease.{Lease}
use Rattle.store_state.proofs.lease_list.place_of_lease.Goals as goal

-- the closure compares the number of a lease
pub returns-clause-found : goal.returns-clause-found
returns-clause-found c =
    c.binary_search_by.ensures.position (λ (lease : Lease). nat_cmp lease.number c.args.number)
    (always_returns_same _ _ _ (λ a r f called. search rules))
