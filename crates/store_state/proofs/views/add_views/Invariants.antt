use Rattle.std.proofs.Common.{◌≡◌, ◌≤◌, ◌+◌, ◌-◌, ◌^◌, min, flat_map, sum_by, drop}
use Rattle.machine.specs.Blocks.{blocks_of}
use Rattle.store_state.specs.declared.view.LocalFile.{LocalFile}
use Rattle.store_state.specs.declared.view.View.{View}
use Rattle.store_state.proofs.views.add_views.Given as goal

abbrev pub invariant-loop-view : goal.invariant-loop-view
invariant-loop-view l = record { sum : min (l.total + sum_by (λ (file : LocalFile). blocks_of file.length) (flat_map (λ (view : View). view.locals) (drop l.view-index l.views))) (2 ^ 64 - 1) ≡ min (l.fn.sum + sum_by (λ (file : LocalFile). blocks_of file.length) (flat_map (λ (view : View). view.locals) l.views)) (2 ^ 64 - 1); fits : l.total ≤ 2 ^ 64 - 1 }
