use Rattle.std.proofs.Common.{◌≡◌, ◌≤◌, ◌+◌, ◌-◌, ◌^◌, min, sum_by, drop}
use Rattle.machine.specs.Blocks.{blocks_of}
use Rattle.store_state.specs.declared.view.LocalFile.{LocalFile}
use Rattle.store_state.proofs.views.add_blocks.Given as goal

abbrev pub invariant-loop-file : goal.invariant-loop-file
invariant-loop-file l = record { sum : min (l.total + sum_by (λ (file : LocalFile). blocks_of file.length) (drop l.file-index l.files)) (2 ^ 64 - 1) ≡ min (l.fn.sum + sum_by (λ (file : LocalFile). blocks_of file.length) l.files) (2 ^ 64 - 1); fits : l.total ≤ 2 ^ 64 - 1 }
