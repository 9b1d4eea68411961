use Rattle.std.proofs.Common.{◌≡◌, ◌≤◌, ◌*◌, ◌+◌, ◌^◌, drop}
use Rattle.store_state.specs.Locals.{outside_locals}
use Rattle.install_plan.specs.Carried.{copied_in}
use Rattle.install_plan.proofs.local_plans.copied_in.Given as goal

abbrev pub invariant-loop-file : goal.invariant-loop-file
invariant-loop-file l = record {
  sum : l.sum + copied_in (drop l.file-index l.files) ≡ copied_in l.files;
  few : l.sum + 2 ^ 52 * outside_locals (drop l.file-index l.files) ≤ 2 ^ 60;
}
