use Rattle.std.proofs.Common.{◌≡◌, ◌++◌, drop, map}
use Rattle.machine.specs.declared.lease.Lease.{Lease}
use Rattle.cleaner.proofs.used_numbers.add_leases.Given as goal

abbrev pub invariant-loop-lease : goal.invariant-loop-lease
invariant-loop-lease l =
    l.numbers.items ++ map (λ (lease : Lease). lease.view) (drop l.lease-index l.leases)
    ≡ l.initial.numbers.items ++ map (λ (lease : Lease). lease.view) l.leases
