use Rattle.std.proofs.Common.{take}
use Rattle.install_plan.proofs.Copies.{CopiedSo}
use Rattle.install_plan.proofs.new_locals.copy_locals.Given as goal

abbrev pub invariant-loop-plan : goal.invariant-loop-plan
invariant-loop-plan g l =
    CopiedSo g.D.Disk l.old (take l.plan-index l.plans) l.initial.drafts l.drafts l.initial.files l.files l.initial.disk l.disk
