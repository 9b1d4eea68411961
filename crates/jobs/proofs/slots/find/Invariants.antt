use Rattle.std.proofs.Common.{◌≡◌, take}
use Rattle.jobs.specs.Keys.{key_by}
use Rattle.jobs.specs.Balance.{needed_as}
use Rattle.jobs.proofs.slots.find.Given as goal

abbrev pub invariant-loop-at : goal.invariant-loop-at
invariant-loop-at l = needed_as (key_by l.size l.list) (take l.at l.slots) ≡ 0
