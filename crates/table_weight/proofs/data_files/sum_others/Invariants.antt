use Rattle.std.proofs.Common.{◌≡◌, ◌≤◌, ◌+◌, ◌-◌, ◌^◌, min, sum_by, drop, bytes_eq, if◌then◌else◌}
use Rattle.store_state.specs.declared.view.LocalFile.{LocalFile}
use Rattle.table_weight.specs.Weight.{block_cost, local_weight}
use Rattle.table_weight.proofs.data_files.sum_others.Given as goal

abbrev pub invariant-loop-file : goal.invariant-loop-file
invariant-loop-file l =
    let weigh = λ (file : LocalFile).
    if bytes_eq file.name l.name then 0 else local_weight block_cost file in
    record {
      sum : min (l.total + sum_by weigh (drop l.file-index l.files)) (2 ^ 64 - 1)
          ≡ min (sum_by weigh l.files) (2 ^ 64 - 1);
      fits : l.total ≤ 2 ^ 64 - 1;
    }
