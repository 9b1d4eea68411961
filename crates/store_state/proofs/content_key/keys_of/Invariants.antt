use Rattle.std.proofs.Common.{◌≡◌, ◌++◌, drop, map}
use Rattle.store_state.specs.Contents.{held_key}
use Rattle.store_state.proofs.content_key.keys_of.Given as goal

abbrev pub invariant-loop-content : goal.invariant-loop-content
invariant-loop-content l = l.keys.items ++ map held_key (drop l.content-index l.contents) ≡ map held_key l.contents
