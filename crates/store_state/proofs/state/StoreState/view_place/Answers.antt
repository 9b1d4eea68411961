use Rattle.std.proofs.Common.{◌≡◌, ◌<◌, None, length, subst}
use Rattle.std.specs.Prelude.{IfNone, IfSome, slice_get}
use Rattle.std.specs.Result.{result_ok}
use Rattle.store_state.specs.Rows.{row_at}
use Rattle.store_state.specs.Tables.{Tables}
use Rattle.store_state.proofs.GrownTables.{row_none, row_place}
use Rattle.store_state.proofs.state.StoreState.view_place.Goals as goal

-- the search ends at the view
pub returns-clause-found : goal.returns-clause-found
returns-clause-found c =
    rw c.ok.ensures.value
    (subst (λ (t : Tables). IfSome (result_ok c.place_of_view.result)
    (λ place. (place < length t.views) × (slice_get t.views place ≡ row_at c.args.number t.views)))
    c.self.view_is
    (row_place c.args.number c.self.inside.views c.self.invariant.1.rising c.as_slice.result.now
    c.place_of_view.result c.as_slice.ensures c.place_of_view.ensures.range
    c.place_of_view.ensures.found))

-- or at none
pub returns-clause-none : goal.returns-clause-none
returns-clause-none c =
    rw c.ok.ensures.value
    (subst (λ (t : Tables). IfNone (result_ok c.place_of_view.result)
    (row_at c.args.number t.views ≡ None)) c.self.view_is
    (row_none c.args.number c.self.inside.views c.self.invariant.1.rising c.as_slice.result.now
    c.place_of_view.result c.as_slice.ensures c.place_of_view.ensures.found))
