use Rattle.std.proofs.Common.{rules}
use Rattle.std.specs.Ordering.{nat_cmp}
use Rattle.std.proofs.lemmas.Fn.{always_returns_same}
use Rattle.store_state.specs.declared.view.View.{View}
use Rattle.store_state.proofs.views.place_of_view.Goals as goal

-- the closure compares the number of a view
pub returns-clause-found : goal.returns-clause-found
returns-clause-found c = c.binary_search_by.ensures.position (λ (view : View). nat_cmp view.number c.args.number) (always_returns_same _ _ _ (λ a r f called. search rules))
