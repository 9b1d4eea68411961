-- A content that is copied run by run.
use Rattle.std.proofs.Common.{◌≡◌, ℕ, ◌+◌, ◌%◌, ◌<◌, ◌≤◌, List, length, take, refl, sym, ◌∙◌, subst, arith}
use Rattle.std.proofs.lemmas.List.{take_all}
use Rattle.disks.specs.Spends.{Spends}
use Rattle.disks.specs.declared.disk.Disk.{Ghosts}
use Rattle.disks.proofs.Books.{spends_none, spends_then, spends_within}
use Rattle.small_types.specs.Blocks.{IsContent, ShareNone, count_for}
use Rattle.small_types.proofs.KeptBlocks.{content_stays}
use Rattle.file_store.specs.Stores.{DraftHolds, draft_blocks, draft_size, filled_of}
use Rattle.file_store.specs.Writes.{WritesOnly, touched}
use Rattle.file_store.specs.declared.draft.Draft.{Draft}
use Rattle.file_store.proofs.KeptContents.{writes_then}
use Rattle.file_store.proofs.BlockWrites.{only_start}
use Rattle.block_files.proofs.Begun.{holds_none}

module _ {D : Type 0} (on : Ghosts D) (base : ℕ) (blocks own : List ℕ) (size : ℕ) (first : D) where
  -- so many bytes of the content are copied, in whole blocks but for the last ones
  pub record Copied (done : ℕ) (draft : Draft) (now : D) : Type 0 where
    pub within : done ≤ size
    pub aligned : done < size → done % 4096 ≡ 0
    pub filled : filled_of draft ≡ done
    pub same_blocks : draft_blocks draft ≡ own
    pub same_size : draft_size draft ≡ size
    pub only : WritesOnly on base own first now
    pub written : on.total now ≡ on.total first + done
    pub spends : Spends on (count_for done) done first now ⊥
    pub held : on.tells now → (content : List ℕ) → length content ≡ size → ShareNone blocks own → IsContent base blocks content (on.seen first)
        → DraftHolds base draft (take done content) (on.seen now)

  pub copied_none : (draft : Draft) → filled_of draft ≡ 0 → draft_blocks draft ≡ own → draft_size draft ≡ size → Copied 0 draft first
  copied_none draft empty same_blocks same_size = record {
    within = omega arith;
    aligned = λ some. refl;
    filled = empty;
    same_blocks = same_blocks;
    same_size = same_size;
    only = only_start on base own first;
    written = omega arith;
    spends = spends_within on 0 0 (count_for 0) 0 first first ⊥ (omega arith) (omega arith) (spends_none on first);
    held = λ tells content long none is. holds_none base draft (on.seen first) empty;
  }

  module _ (done : ℕ) (draft : Draft) (mid new : D) (copied : Copied done draft mid) where
    -- the writes of a run more, whatever its end
    pub run_only : WritesOnly on base (draft_blocks draft) mid new → WritesOnly on base own first new
    run_only only = writes_then on base own first mid new copied.only (subst (λ (l : List ℕ). WritesOnly on base l mid new) copied.same_blocks only)

    -- a run more
    pub run_well : (run : ℕ) (next : Draft) → done < size → done + run ≤ size → (done + run < size → run % 4096 ≡ 0) → length blocks ≡ count_for size
        → filled_of next ≡ filled_of draft + run → draft_blocks next ≡ draft_blocks draft → draft_size next ≡ draft_size draft
        → WritesOnly on base (draft_blocks draft) mid new → on.total new ≡ on.total mid + run → Spends on (touched (filled_of draft) run) run mid new ⊥
        → (on.tells new → (content : List ℕ) → length content ≡ draft_size draft → IsContent base blocks content (on.seen mid)
        → DraftHolds base draft (take (filled_of draft) content) (on.seen mid) → DraftHolds base next (take (filled_of draft + run) content) (on.seen new))
        → Copied (done + run) next new
    run_well run next some fits whole_run counted filled same_blocks same_size only written spends held = record {
      within = fits;
      aligned = λ more. (let before : done % 4096 ≡ 0 = copied.aligned some in let run_whole : run % 4096 ≡ 0 = whole_run more in omega (arith, before, run_whole));
      filled = omega (arith, filled, copied.filled);
      same_blocks = same_blocks ∙ copied.same_blocks;
      same_size = same_size ∙ copied.same_size;
      only = run_only only;
      written = omega (arith, written, copied.written);
      spends = (let before : done % 4096 ≡ 0 = copied.aligned some in
          spends_within on (count_for done + touched (filled_of draft) run) (done + run) (count_for (done + run)) (done + run) first new ⊥ (omega (arith, before, copied.filled)) (omega arith)
          (spends_then on (count_for done) done (touched (filled_of draft) run) run first mid new ⊥ copied.spends spends));
      held = λ tells content long none is.
          let told = spends.told tells in
          let stays : IsContent base blocks content (on.seen mid) = content_stays base blocks content (on.seen first) (on.seen mid) (omega (arith, long, counted)) is own none copied.only.reads in
          let before : DraftHolds base draft (take (filled_of draft) content) (on.seen mid) =
          subst (λ (n : ℕ). DraftHolds base draft (take n content) (on.seen mid)) (sym copied.filled) (copied.held told content long none is) in
          subst (λ (n : ℕ). DraftHolds base next (take (n + run) content) (on.seen new)) copied.filled (held tells content (long ∙ sym copied.same_size) stays before);
    }

  -- all of them
  pub copied_all : (done : ℕ) (draft : Draft) (now : D) → size ≤ done → Copied done draft now → on.tells now → (content : List ℕ) → length content ≡ size → ShareNone blocks own
      → IsContent base blocks content (on.seen first) → DraftHolds base draft content (on.seen now)
  copied_all done draft now end copied tells content long none is =
      subst (λ (l : List ℕ). DraftHolds base draft l (on.seen now)) (take_all done content (omega (arith, long))) (copied.held tells content long none is)
