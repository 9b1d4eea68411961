use Rattle.std.proofs.Common.{Ok, inl, inr, refl}
use Rattle.install_plan.proofs.Sealed.{sealed, unsealed}
use Rattle.install_plan.proofs.drafted.seal_change.Goals as goal

pub seal-requires : goal.seal-requires
seal-requires g c = c.requires

pub returns-in-Ok-clause-ends : goal.returns-in-Ok-clause-ends
returns-in-Ok-clause-ends g c = inl refl

pub returns-in-Ok-clause-seals : goal.returns-in-Ok-clause-seals
returns-in-Ok-clause-seals g c =
    sealed g.D.Disk c.args.drafts (Ok c.args.drafted) c.args.files.now c.seal.new.files
    c.seal.ensures.range c.args.disk.now c.seal.new.disk c.seal.ensures.seen
    c.seal.ensures.any_moment c.seal.result c.seal.ensures.spends c.args.drafted c.in-Ok.sealed
    c.in-Ok.is c.in-Ok.ensures.lists c.in-Ok.ensures.free c.in-Ok.ensures.contents

pub returns-in-Err-clause-ends : goal.returns-in-Err-clause-ends
returns-in-Err-clause-ends g c = inr refl

pub returns-in-Err-clause-seals : goal.returns-in-Err-clause-seals
returns-in-Err-clause-seals g c =
    unsealed g.D.Disk c.args.drafts (Ok c.args.drafted) c.args.files.now c.seal.new.files
    c.seal.ensures.range c.args.disk.now c.seal.new.disk c.seal.ensures.seen
    c.seal.ensures.any_moment c.seal.result c.seal.ensures.spends c.args.drafted c.in-Err.fault
    c.in-Err.is c.in-Err.ensures.faults refl c.in-Err.ensures.freed
