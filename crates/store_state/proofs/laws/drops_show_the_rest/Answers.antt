use Rattle.std.proofs.Common.{ℕ, All, subst, sym}
use Rattle.machine.specs.InUse.{IsInUse}
use Rattle.machine.specs.Store.{Store}
use Rattle.store_state.proofs.CleanedTables.{drops_shown}
use Rattle.store_state.proofs.Drops.{left_ordered, left_valid}
use Rattle.store_state.proofs.laws.drops_show_the_rest.Goals as goal

pub returns : goal.returns
returns c = λ room tables numbers image later store shows same unused. (
    let unused_there = subst (λ (s : Store).
    All (λ (number : ℕ). ¬ IsInUse number s.apps s.leases) numbers) (sym shows.is) unused in
    record {
      shows = drops_shown room tables numbers image later store shows same;
      ordered = left_ordered numbers store unused_there;
      valid = left_valid numbers store unused_there;
    }
    )
