use Rattle.std.proofs.Common.{◌↔◌, IfOk, IsTrue, Option, subst}
use Rattle.std.specs.Prelude.{IsSomeAnd}
use Rattle.store_state.specs.declared.view.View.{View}
use Rattle.store_state.specs.Change.{MayGrow}
use Rattle.store_state.proofs.state.StoreState.fits_group.Goals as goal

-- the view is that of the number
pub returns-in-Some : goal.returns-in-Some
returns-in-Some c =
    subst (λ (row : Option View). IfOk c.may_grow.result (λ answer. IsTrue answer
    ↔ IsSomeAnd row (MayGrow c.args.self.now c.args.group.now c.args.contents.now)))
    c.in-Some.ensures c.may_grow.ensures
