use Rattle.store_state.specs.ContentKeys.{content_key_cmp}
use Rattle.store_state.proofs.Orders.{RisesTo}
use Rattle.store_state.proofs.brought_contents.are_distinct.Given as goal

abbrev pub invariant-loop-place : goal.invariant-loop-place
invariant-loop-place l = RisesTo content_key_cmp l.keys l.place
