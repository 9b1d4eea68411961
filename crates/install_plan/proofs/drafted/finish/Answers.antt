use Rattle.std.proofs.Common.{Ok, Err, Result, subst, sym}
use Rattle.install_plan.specs.declared.drafted.Drafted.{Drafted}
use Rattle.install_plan.specs.declared.lack.Lack.{Lack}
use Rattle.install_plan.specs.Drafted.{EndsAs, Seals}
use Rattle.install_plan.proofs.Sealed.{lacking}
use Rattle.install_plan.proofs.drafted.finish.Goals as goal

pub seal_change-requires : goal.seal_change-requires
seal_change-requires g c = c.requires

pub abandon-requires : goal.abandon-requires
abandon-requires g c = c.requires

pub returns-in-Ok-clause-ends : goal.returns-in-Ok-clause-ends
returns-in-Ok-clause-ends g c =
    subst (λ (d : Result Drafted Lack). EndsAs d c.seal_change.result) (sym c.in-Ok.is) c.seal_change.ensures.ends

pub returns-in-Ok-clause-seals : goal.returns-in-Ok-clause-seals
returns-in-Ok-clause-seals g c =
    subst (λ (d : Result Drafted Lack). Seals g.D.Disk c.args.drafts d c.args.files.now c.seal_change.new.files
    c.args.disk.now c.seal_change.new.disk c.seal_change.result) (sym c.in-Ok.is) c.seal_change.ensures.seals

pub returns-in-Err-clause-ends : goal.returns-in-Err-clause-ends
returns-in-Err-clause-ends g c =
    subst (λ (d : Result Drafted Lack). EndsAs d c.lack_end.result) (sym c.in-Err.is) c.lack_end.ensures

pub returns-in-Err-clause-seals : goal.returns-in-Err-clause-seals
returns-in-Err-clause-seals g c =
    lacking g.D.Disk c.args.drafts c.args.drafted c.args.files.now c.abandon.new.files
    c.abandon.ensures.range c.args.disk.now c.abandon.ensures.freed c.in-Err.lack c.lack_end.result
    c.in-Err.is c.lack_end.ensures
