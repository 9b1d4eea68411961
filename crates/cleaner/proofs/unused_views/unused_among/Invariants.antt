use Rattle.std.proofs.Common.{◌≡◌, ◌==◌, ◌++◌, ℕ, drop, map, not}
use Rattle.std.specs.Prelude.{filter}
use Rattle.std.specs.List.{list_any}
use Rattle.store_state.specs.declared.view.View.{View}
use Rattle.cleaner.proofs.unused_views.unused_among.Given as goal

abbrev pub invariant-loop-view : goal.invariant-loop-view
invariant-loop-view l =
    l.found.items ++ filter (λ (number : ℕ). not (list_any (λ (n : ℕ). n == number) l.used))
    (map (λ (view : View). view.number) (drop l.view-index l.views))
    ≡ filter (λ (number : ℕ). not (list_any (λ (n : ℕ). n == number) l.used))
    (map (λ (view : View). view.number) l.views)
