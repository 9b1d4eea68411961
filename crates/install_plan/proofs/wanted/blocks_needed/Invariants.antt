use Rattle.std.proofs.Common.{◌≡◌, ◌≤◌, ◌+◌, ◌-◌, ◌^◌, drop}
use Rattle.std.specs.Prelude.{min, slice_get, sum_by}
use Rattle.install_plan.specs.WantedFiles.{blocks_at}
use Rattle.install_plan.proofs.wanted.blocks_needed.Given as goal

abbrev pub invariant-loop-place : goal.invariant-loop-place
invariant-loop-place l = record {
  sum : min (l.sum + sum_by (λ place. blocks_at (slice_get l.files place)) (drop l.place-index l.places)) (2 ^ 64 - 1)
      ≡ min (sum_by (λ place. blocks_at (slice_get l.files place)) l.places) (2 ^ 64 - 1);
  fits : l.sum ≤ 2 ^ 64 - 1;
}
