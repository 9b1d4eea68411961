use Rattle.std.proofs.Common.{◌≡◌, List, Option, IfNone, IfSome, subst}
use Rattle.jobs.specs.Balance.{needed_as}
use Rattle.jobs.specs.Keys.{key_by}
use Rattle.jobs.specs.Moves.{IsSlotFor}
use Rattle.jobs.specs.declared.held.Slot.{Slot}
use Rattle.jobs.proofs.MovedBlocks.{slot_found}
use Rattle.jobs.proofs.table.JobTable.slot_of.Goals as goal

pub returns-clause-found : goal.returns-clause-found
returns-clause-found c =
    subst (λ (l : List Slot). IfSome c.find.result (IsSlotFor (key_by c.args.size c.args.list.now) l)) c.deref.ensures.value
    (slot_found c.deref.result.now (key_by c.args.size c.args.list.now) c.find.result c.find.ensures.found)

pub returns-clause-none : goal.returns-clause-none
returns-clause-none c = subst (λ (l : List Slot). IfNone c.find.result (needed_as (key_by c.args.size c.args.list.now) l ≡ 0)) c.deref.ensures.value c.find.ensures.none
