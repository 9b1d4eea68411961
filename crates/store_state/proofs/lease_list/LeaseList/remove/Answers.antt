use Rattle.std.proofs.Common.{◌∙◌, ◌==◌, List, ap, not, rules}
use Rattle.std.proofs.lemmas.Fn.{filter_same}
use Rattle.machine.specs.declared.lease.Lease.{Lease}
use Rattle.machine.specs.Leases.{without_lease}
use Rattle.store_state.proofs.lease_list.LeaseList.remove.Goals as goal

-- the closure keeps each lease of another number
pub returns : goal.returns
returns c =
    filter_same _ (λ (lease : Lease). not (lease.number == c.args.number)) _
    (λ x b f called. search rules) _ _ c.retain.ensures.filtered
    ∙ ap (λ (leases : List Lease). without_lease c.args.number leases) c.self.view_is
