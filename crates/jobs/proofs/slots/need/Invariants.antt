use Rattle.std.proofs.Common.{◌≡◌, ◌≤◌, ◌*◌, ◌^◌, take}
use Rattle.jobs.specs.NewJobs.{need_for}
use Rattle.jobs.proofs.slots.need.Given as goal

abbrev pub invariant-loop-place : goal.invariant-loop-place
invariant-loop-place l = record {
  sum : l.need ≡ need_for l.slots l.entries (take l.place-index l.left);
  few : l.need ≤ l.place-index * 2 ^ 17;
}
