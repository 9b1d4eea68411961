use Rattle.machine.specs.declared.lease.Lease.{Lease}
use Rattle.store_state.proofs.Numbered.{no_number, number_at}
use Rattle.store_state.proofs.lease_list.find_lease.Goals as goal

pub returns-in-Ok : goal.returns-in-Ok
returns-in-Ok c =
    number_at (λ (lease : Lease). lease.number) c.args.leases.now c.args.number c.requires
    c.in-Ok.place _ c.in-Ok.ensures.range c.in-Ok.ensures.found

pub returns-in-Err : goal.returns-in-Err
returns-in-Err c =
    no_number (λ (lease : Lease). lease.number) c.args.leases.now c.args.number c.requires
    c.in-Err.field-0 c.in-Err.ensures.found
