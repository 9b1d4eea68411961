use Rattle.std.proofs.Common.{All, Contains, map, take}
use Rattle.machine.specs.Views.{ContentKey}
use Rattle.store_state.specs.Contents.{held_key}
use Rattle.store_state.proofs.brought_contents.is_lacking.Given as goal

abbrev pub invariant-loop-key : goal.invariant-loop-key
invariant-loop-key l =
    All (λ (key : ContentKey). ¬ Contains (map held_key l.state.contents) key)
    (take l.key-index l.brought)
