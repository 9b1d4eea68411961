use Rattle.std.proofs.Common.{◌∙◌, ◌++◌, List, ap, map}
use Rattle.std.specs.Prelude.{flat_map}
use Rattle.machine.specs.declared.lease.Lease.{Lease}
use Rattle.machine.specs.InUse.{is_in_use}
use Rattle.store_state.specs.Tables.{Tables}
use Rattle.cleaner.specs.Used.{named_numbers}
use Rattle.cleaner.proofs.NamedViews.{used_any}
use Rattle.cleaner.proofs.used_numbers.numbers_in_use.Goals as goal

pub returns-clause-used : goal.returns-clause-used
returns-clause-used c = λ number. (
    let apps = c.state.inside.apps in
    let leases = c.state.inside.leases in
    let all = c.in_ok-add_leases.ensures
    ∙ ap (λ ns. ns ++ map (λ (lease : Lease). lease.view) c.as_slice-2.result.now)
    (c.in_ok-used.ensures ∙ ap (flat_map named_numbers) c.as_slice.ensures)
    ∙ ap (λ (ls : List Lease). flat_map named_numbers apps
    ++ map (λ (lease : Lease). lease.view) ls) c.as_slice-2.ensures in
    used_any number apps leases c.add_leases.new.numbers.items c.sort_unstable.new.self.items all
    c.sort_unstable.ensures.permutation
    ∙ ap (λ (t : Tables). is_in_use number t.apps t.leases) c.state.view_is
    )
