use Rattle.std.proofs.Common.{◌≡◌, ◌≤◌, ◌+◌, ◌-◌, ◌^◌, ℕ, min, sum_by, drop, slice_get}
use Rattle.machine.specs.Weight.{counted}
use Rattle.table_weight.specs.Releases.{program_weight}
use Rattle.table_weight.proofs.groups.sum_programs.Given as goal

abbrev pub invariant-loop-place : goal.invariant-loop-place
invariant-loop-place l =
    let weigh = λ (place : ℕ). counted program_weight (slice_get l.files place) in
    record {
      sum : min (l.total + sum_by weigh (drop l.place-index l.places)) (2 ^ 64 - 1)
          ≡ min (sum_by weigh l.places) (2 ^ 64 - 1);
      fits : l.total ≤ 2 ^ 64 - 1;
    }
