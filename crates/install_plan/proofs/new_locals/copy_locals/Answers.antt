use Rattle.std.proofs.Common.{take, ◌+◌, sym, ap, length, Option, Some, ◌∙◌}
use Rattle.install_plan.specs.declared.lack.Lack.TheVariants as by
use Rattle.install_plan.proofs.Copies.{as_there, copied_more, copied_none, copied_other, copied_stop, copy_blocks, file_measured}
use Rattle.install_plan.proofs.FileLacks.{no_err}
use Rattle.install_plan.proofs.new_locals.copy_locals.Goals as goal
use Rattle.install_plan.proofs.new_locals.copy_locals.Goals.{in-Copy+in-Some+in_default-copy_one, in_default}

pub loop-plan-init : goal.loop-plan-init
loop-plan-init g c = copied_none g.D.Disk c.args.old.now c.args.drafts.now c.args.files.now c.args.disk.now c.requires.used

pub copy_one-requires-clause-measured : goal.copy_one-requires-clause-measured
copy_one-requires-clause-measured g c =
    file_measured g.D.Disk c.args.old.now c.args.plans.now c.args.drafts.now c.loop-plan.drafts c.args.files.now c.loop-plan.files c.args.disk.now c.loop-plan.disk c.loop-plan.plan-index c.plan-item.result
    c.loop-plan-test.true c.plan-item.is c.loop-plan.invariant c.in-Copy.from c.in-Copy.to c.in-Copy.is c.in-Some.file.now c.in-Some.ensures c.requires.measured

pub copy_one-requires-clause-room : goal.copy_one-requires-clause-room
copy_one-requires-clause-room g c =
    copy_blocks g.D.Disk c.args.old.now c.args.plans.now c.args.drafts.now c.loop-plan.drafts c.args.files.now c.loop-plan.files c.args.disk.now c.loop-plan.disk c.loop-plan.plan-index c.plan-item.result
    c.loop-plan-test.true c.plan-item.is c.loop-plan.invariant c.in-Copy.from c.in-Copy.to c.in-Copy.is c.in-Some.file.now c.in-Some.ensures c.requires.room

pub returns-in-Err-clause-works : goal.returns-in-Err-clause-works
returns-in-Err-clause-works g c =
    copied_stop g.D.Disk c.args.old.now c.args.plans.now c.args.drafts.now c.loop-plan.drafts c.args.files.now c.loop-plan.files c.args.disk.now c.loop-plan.disk c.loop-plan.plan-index c.plan-item.result
    c.loop-plan-test.true c.plan-item.is c.loop-plan.invariant c.in-Copy.from c.in-Copy.to c.in-Copy.is c.in-Some.file.now c.in-Some.ensures
    c.copy_one.new.drafts c.copy_one.new.files c.copy_one.new.disk _ c.in-Err.ensures.works

pub loop-plan-preserved : goal.loop-plan-preserved
loop-plan-preserved g c =
    let plans = c.args.plans.now in
    let at = c.loop-plan.plan-index in
    elim c.match-plan.branch [
      | in-Copy+in-Some+in_default-copy_one w ↦
          as_there g.D.Disk c.args.old.now (take (at + 1) plans) c.args.drafts.now w.copy_one.new.drafts c.match-plan.drafts c.args.files.now w.copy_one.new.files c.match-plan.files c.args.disk.now w.copy_one.new.disk c.match-plan.disk
          w.drafts-is w.files-is w.disk-is
          (copied_more g.D.Disk c.args.old.now plans c.args.drafts.now c.loop-plan.drafts c.args.files.now c.loop-plan.files c.args.disk.now c.loop-plan.disk at c.plan-item.result
          c.loop-plan-test.true c.plan-item.is c.loop-plan.invariant w.in-Copy.from w.in-Copy.to w.in-Copy.is w.in-Some.file.now w.in-Some.ensures
          w.copy_one.new.drafts w.copy_one.new.files w.copy_one.new.disk _ w.in_default-copy_one.ensures.works (no_err by.DiskFault) c.requires.measured
          w.in_default-copy_one.ensures.added w.in_default-copy_one.ensures.left w.in_default-copy_one.ensures.held)
      | in_default w ↦
          as_there g.D.Disk c.args.old.now (take (at + 1) plans) c.args.drafts.now c.loop-plan.drafts c.match-plan.drafts c.args.files.now c.loop-plan.files c.match-plan.files c.args.disk.now c.loop-plan.disk c.match-plan.disk
          w.drafts-is w.files-is w.disk-is
          (copied_other g.D.Disk c.args.old.now plans c.args.drafts.now c.loop-plan.drafts c.args.files.now c.loop-plan.files c.args.disk.now c.loop-plan.disk at c.plan-item.result
          c.loop-plan-test.true c.plan-item.is c.loop-plan.invariant w.in_default.not-Copy)
    ]
