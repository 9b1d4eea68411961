use Rattle.line_drafts.specs.declared.fault.DraftFault.TheVariants.{DiskFault}
use Rattle.line_drafts.proofs.Works.{works_as}
use Rattle.install_plan.specs.declared.lack.Lack.TheVariants as by
use Rattle.install_plan.proofs.FileLacks.{by_disk, err_by, err_is, of_disk}
use Rattle.install_plan.proofs.Copies.{one_held, one_left}
use Rattle.install_plan.proofs.new_locals.copy_one.Goals as goal

pub returns-in-Ok-clause-left : goal.returns-in-Ok-clause-left
returns-in-Ok-clause-left g c =
    one_left g.D.Disk c.args.drafts.now c.copy.new.self c.args.files.now c.copy.new.files c.args.disk.now c.copy.new.disk c.args.file.now _ _ c.in-Ok.ensures.works c.in-Ok.ensures.added

pub returns-in-Ok-clause-held : goal.returns-in-Ok-clause-held
returns-in-Ok-clause-held g c = λ room contents told base none has held.
    one_held g.D.Disk c.args.drafts.now c.copy.new.self c.args.files.now c.copy.new.files c.args.disk.now c.copy.new.disk c.args.file.now (c.in-Ok.ensures.copied told) room contents base none has held

pub returns-in-Err-clause-works : goal.returns-in-Err-clause-works
returns-in-Err-clause-works g c =
    works_as g.D.Disk _
    (λ is. err_by (by_disk c.in-Err.fault c.lack_of.result c.lack_of.ensures (err_is c.in-Err.fault DiskFault is)))
    (λ is. err_by (of_disk c.in-Err.fault c.lack_of.result c.lack_of.ensures (err_is c.lack_of.result by.DiskFault is)))
    c.in-Err.ensures.works
