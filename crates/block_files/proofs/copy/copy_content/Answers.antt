use Rattle.std.proofs.Common.{◌≡◌, ◌+◌, ◌≤◌, ◌∙◌, ℕ, List, length, take, refl, ap, arith, sym, subst}
use Rattle.std.proofs.lemmas.List.{length-take}
use Rattle.std.specs.Result.{is_ok}
use Rattle.disks.proofs.Books.{none_failed}
use Rattle.small_types.specs.Blocks.{IsContent, ShareNone, count_for}
use Rattle.file_store.specs.Stores.{DraftHolds, draft_blocks, draft_size, filled_of, store_base}
use Rattle.file_store.specs.Writes.{WritesOnly, touched}
use Rattle.block_files.proofs.Copies.{Copied, copied_all, copied_none, run_only, run_well}
use Rattle.block_files.proofs.copy.copy_content.Goals as goal

pub loop-done-init : goal.loop-done-init
loop-done-init g c = record {
  store = refl;
  copied = copied_none g.D.Disk (store_base c.args.files.now) c.args.blocks.now (draft_blocks c.restart.new.draft) c.size-size.result c.args.disk.now c.restart.new.draft c.restart.ensures.filled refl (sym c.size-size.ensures);
}

pub returns-in_err-copy_run-clause-only : goal.returns-in_err-copy_run-clause-only
returns-in_err-copy_run-clause-only g c =
    let same : store_base c.loop-done.files ≡ store_base c.args.files.now = ap store_base c.loop-done.invariant.store in
    let only : WritesOnly g.D.Disk (store_base c.args.files.now) (draft_blocks c.loop-done.draft) c.loop-done.disk c.copy_run.new.disk =
    subst (λ (b : ℕ). WritesOnly g.D.Disk b (draft_blocks c.loop-done.draft) c.loop-done.disk c.copy_run.new.disk) same c.copy_run.ensures.only in
    subst (λ (l : List ℕ). WritesOnly g.D.Disk (store_base c.args.files.now) l c.args.disk.now c.copy_run.new.disk) c.restart.ensures.blocks
    (run_only g.D.Disk (store_base c.args.files.now) c.args.blocks.now (draft_blocks c.restart.new.draft) c.size-size.result c.args.disk.now c.loop-done.done c.loop-done.draft c.loop-done.disk c.copy_run.new.disk c.loop-done.invariant.copied only)

pub loop-done-preserved : goal.loop-done-preserved
loop-done-preserved g c =
    let base = store_base c.args.files.now in
    let draft = c.loop-done.draft in
    let part = take c.min-run.result c.loop-done.buffer in
    let same : store_base c.loop-done.files ≡ store_base c.args.files.now = ap store_base c.loop-done.invariant.store in
    let size : c.size-size.result ≡ draft_size c.args.draft.now = c.size-size.ensures ∙ c.restart.ensures.size in
    let run : length (take c.min-run.result c.loop-done.buffer) ≡ c.min-run.result = omega (arith, length-take c.min-run.result c.loop-done.buffer, c.min-run.ensures, c.loop-done.auto.buffer) in
    let fits : c.loop-done.done + length (take c.min-run.result c.loop-done.buffer) ≤ c.size-size.result = omega (arith, run, c.min-run.ensures, c.loop-done-test.true) in
    let only : WritesOnly g.D.Disk (store_base c.args.files.now) (draft_blocks c.loop-done.draft) c.loop-done.disk c.copy_run.new.disk =
    subst (λ (b : ℕ). WritesOnly g.D.Disk b (draft_blocks c.loop-done.draft) c.loop-done.disk c.copy_run.new.disk) same c.copy_run.ensures.only in
    record {
      store = c.copy_run.ensures.store ∙ c.loop-done.invariant.store;
      copied = subst (λ (n : ℕ). Copied g.D.Disk (store_base c.args.files.now) c.args.blocks.now (draft_blocks c.restart.new.draft) c.size-size.result c.args.disk.now (c.loop-done.done + n) c.copy_run.new.draft c.copy_run.new.disk) run
          (run_well g.D.Disk base c.args.blocks.now (draft_blocks c.restart.new.draft) c.size-size.result c.args.disk.now c.loop-done.done draft c.loop-done.disk c.copy_run.new.disk c.loop-done.invariant.copied (length part) c.copy_run.new.draft
          c.loop-done-test.true fits (λ more. omega (arith, run, more, c.min-run.ensures)) (c.requires.counted ∙ ap count_for (sym size))
          c.in_ok-copy_run.ensures.filled c.copy_run.ensures.blocks c.copy_run.ensures.size only c.in_ok-copy_run.ensures.written
          (none_failed g.D.Disk (touched (filled_of c.loop-done.draft) (length part)) (length part) c.loop-done.disk c.copy_run.new.disk c.copy_run.result (ap is_ok c.in_ok-copy_run.was) c.copy_run.ensures.spends)
          (λ tells content long is before.
          subst (λ (b : ℕ). DraftHolds b c.copy_run.new.draft (take (filled_of c.loop-done.draft + length (take c.min-run.result c.loop-done.buffer)) content) (g.D.Disk.seen c.copy_run.new.disk)) same
          (c.in_ok-copy_run.ensures.held tells content long
          (subst (λ (b : ℕ). IsContent b c.args.blocks.now content (g.D.Disk.seen c.loop-done.disk)) (sym same) is)
          (subst (λ (b : ℕ). DraftHolds b c.loop-done.draft (take (filled_of c.loop-done.draft) content) (g.D.Disk.seen c.loop-done.disk)) (sym same) before))));
    }

pub returns-clause-held : goal.returns-clause-held
returns-clause-held g c = λ tells content long none is.
    let size : length content ≡ c.size-size.result = long ∙ sym (c.size-size.ensures ∙ c.restart.ensures.size) in
    copied_all g.D.Disk (store_base c.args.files.now) c.args.blocks.now (draft_blocks c.restart.new.draft) c.size-size.result c.args.disk.now c.loop-done.done c.loop-done.draft c.loop-done.disk c.loop-done-test.false c.loop-done.invariant.copied
    tells content size (subst (ShareNone c.args.blocks.now) (sym c.restart.ensures.blocks) none) is
