use Rattle.std.proofs.Common.{All, Contains, take}
use Rattle.machine.specs.Views.{ContentKey}
use Rattle.store_state.proofs.brought_contents.is_only.Given as goal

abbrev pub invariant-loop-key : goal.invariant-loop-key
invariant-loop-key l = All (λ (key : ContentKey). Contains l.standing key) (take l.key-index l.brought)
