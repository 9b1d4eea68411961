use Rattle.std.proofs.Common.{◌∙◌, ℕ, List, All, IsSome, ap, subst, sym}
use Rattle.machine.specs.InUse.{IsInUse}
use Rattle.machine.specs.Store.{plain_room}
use Rattle.store_state.specs.Dropped.{dropped}
use Rattle.store_state.specs.Rows.{row_at}
use Rattle.cleaner.proofs.NamedViews.{removable_kept, removable_unused}
use Rattle.cleaner.proofs.unused_views.clean.Goals as goal

pub drop_views-requires-clause-kept : goal.drop_views-requires-clause-kept
drop_views-requires-clause-kept c =
    subst (λ (ns : List ℕ). All (λ (n : ℕ). IsSome (row_at n c.args.state.now.views)) ns)
    (sym (c.in_ok-numbers.ensures (plain_room 0))) (removable_kept (plain_room 0) c.args.state.now)

pub drop_views-requires-clause-unused : goal.drop_views-requires-clause-unused
drop_views-requires-clause-unused c =
    subst (λ (ns : List ℕ). All (λ (n : ℕ). ¬ IsInUse n c.args.state.now.apps
    c.args.state.now.leases) ns)
    (sym (c.in_ok-numbers.ensures (plain_room 0))) (removable_unused (plain_room 0) c.args.state.now)

pub returns-clause-ok : goal.returns-clause-ok
returns-clause-ok c =
    c.drop_views.ensures
    ∙ ap (λ (ns : List ℕ). dropped ns c.args.state.now) (c.in_ok-numbers.ensures (plain_room 0))
