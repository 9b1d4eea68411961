use Rattle.std.proofs.Common.{◌≡◌, ◌∙◌, ◌<◌, None, length, subst}
use Rattle.std.specs.Prelude.{IfNone, IfSome, slice_get}
use Rattle.std.specs.Result.{result_ok}
use Rattle.machine.specs.Entries.{entry_of}
use Rattle.store_state.specs.Tables.{Tables}
use Rattle.store_state.proofs.KeySearch.{place_found, place_none}
use Rattle.store_state.proofs.state.StoreState.place.Goals as goal

-- the search ends at the key's entry
pub returns-clause-found : goal.returns-clause-found
returns-clause-found c =
    rw c.ok.ensures.value
    (subst (λ (t : Tables). IfSome (result_ok c.place_of.result) (λ place. (place < length t.apps)
    × (slice_get t.apps place ≡ entry_of c.args.key.now t.apps))) c.self.view_is
    (place_found c.args.key.now c.self.inside.apps c.as_slice.result.now c.place_of.result
    (c.as_slice.ensures ∙ c.self.invariant.0, c.self.invariant.1.order)
    (record { range = c.place_of.ensures.range; found = c.place_of.ensures.found })))

-- or at none
pub returns-clause-none : goal.returns-clause-none
returns-clause-none c =
    rw c.ok.ensures.value
    (subst (λ (t : Tables). IfNone (result_ok c.place_of.result)
    (entry_of c.args.key.now t.apps ≡ None)) c.self.view_is
    (place_none c.args.key.now c.self.inside.apps c.as_slice.result.now c.place_of.result
    (c.as_slice.ensures ∙ c.self.invariant.0, c.self.invariant.1.order)
    (record { range = c.place_of.ensures.range; found = c.place_of.ensures.found })))
