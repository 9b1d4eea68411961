use Rattle.std.proofs.Common.{ap, arith, subst, sym}
use Rattle.std.specs.Result.{is_ok}
use Rattle.disks.proofs.Books.{none_failed, spends_then}
use Rattle.disks.proofs.MomentLemmas.{untouched_more}
use Rattle.small_types.specs.Blocks.{IsContent}
use Rattle.file_store.specs.Stores.{store_base}
use Rattle.block_files.proofs.Parts.{same_on}
use Rattle.block_files.proofs.sameness.are_bytes.Goals as goal

pub loop-done-preserved : goal.loop-done-preserved
loop-done-preserved g c = record {
  within = c.in_ok-count.ensures.within;
  still = untouched_more g.D.Disk c.args.disk.now c.loop-done.disk c.same_run.new.disk c.loop-done.invariant.still c.same_run.ensures.still;
  spends = spends_then g.D.Disk 0 0 0 0 c.args.disk.now c.loop-done.disk c.same_run.new.disk ⊥ c.loop-done.invariant.spends
      (none_failed g.D.Disk 0 0 c.loop-done.disk c.same_run.new.disk c.same_run.result (ap is_ok c.in_ok-count.was) c.same_run.ensures.spends);
  same = λ tells content long is.
      let here = subst (IsContent (store_base c.args.files.now) c.args.blocks.now content) (sym c.loop-done.invariant.still.same_reads) is in
      same_on content c.args.bytes.now c.loop-done.done c.in_ok-count.count (omega (arith, long, c.loop-done.invariant.within)) c.loop-done.invariant.within
      (c.loop-done.invariant.same (c.same_run.ensures.spends.told tells) content long is) (c.in_ok-count.ensures.same tells content long here);
}
