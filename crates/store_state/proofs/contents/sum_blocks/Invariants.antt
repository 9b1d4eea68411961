use Rattle.std.proofs.Common.{◌≡◌, ◌≤◌, ◌+◌, ◌-◌, ◌^◌, min, sum_by, drop}
use Rattle.machine.specs.Blocks.{blocks_of}
use Rattle.store_state.specs.declared.view.Content.{Content}
use Rattle.store_state.proofs.contents.sum_blocks.Given as goal

abbrev pub invariant-loop-content : goal.invariant-loop-content
invariant-loop-content l = record { sum : min (l.sum + sum_by (λ (content : Content). blocks_of content.size) (drop l.content-index l.contents)) (2 ^ 64 - 1) ≡ min (sum_by (λ (content : Content). blocks_of content.size) l.contents) (2 ^ 64 - 1); fits : l.sum ≤ 2 ^ 64 - 1 }
