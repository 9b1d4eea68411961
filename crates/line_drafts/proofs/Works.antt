-- Calls that add drafts, one after another, for the layer above.
use Rattle.std.proofs.Common.{ℕ, ◌+◌, ◌≤◌, List, ◌++◌, refl, sym, ◌∙◌, ap, subst, arith, Contains}
use Rattle.std.proofs.lemmas.List.{append_assoc}
use Rattle.std.proofs.lemmas.List.Elements.{Contains-append_left}
use Rattle.std.proofs.lemmas.Grind.{flat_map-append}
use Rattle.disks.specs.declared.disk.Disk.{Ghosts}
use Rattle.disks.proofs.Books.{spends_as, spends_then, spends_within}
use Rattle.small_types.specs.Blocks.{KeepsOutside, ShareNone}
use Rattle.file_store.specs.Stores.{AreUsed, blocks_of_all, draft_blocks, free_of, store_base}
use Rattle.file_store.specs.declared.draft.Draft.{Draft}
use Rattle.file_store.specs.declared.store.FileStore.{FileStore}
use Rattle.file_store.proofs.Apart.{apart_other}
use Rattle.file_store.proofs.GivenUp.{range_then}
use Rattle.line_drafts.specs.Works.{Works}
use Rattle.line_drafts.proofs.Course.{none_works}
use Rattle.line_drafts.proofs.KeptDrafts.{held_stay}
use Rattle.line_drafts.proofs.Lines.{lines_only}

module _ {D : Type 0} (on : Ghosts D) where
  -- no call
  pub works_same : (drafts : List Draft) (files : FileStore) (disk : D) (fault : Type 0) → (fault → ⊥) → AreUsed files (blocks_of_all drafts) → Works on drafts drafts files files disk disk 0 fault
  works_same drafts files disk fault none used = none_works on drafts files used disk files refl (record { number = refl; base = refl }) 0 fault none

  -- at most a greater number of bytes
  pub works_more : {drafts drafts' : List Draft} {files files' : FileStore} {old new : D} {most : ℕ} {fault : Type 0} (greater : ℕ) → most ≤ greater → Works on drafts drafts' files files' old new most fault
      → Works on drafts drafts' files files' old new greater fault
  works_more {drafts} {drafts'} {files} {files'} {old} {new} {most} {fault} greater few works = record {
    only = works.only;
    range = works.range;
    more = works.more;
    added = works.added;
    taken = works.taken;
    used = works.used;
    others = works.others;
    held = works.held;
    spends = (works.spends.0, spends_within on works.spends.0 most works.spends.0 greater old new fault (omega arith) few works.spends.1);
  }

  -- the same fault by another name
  pub works_as : {drafts drafts' : List Draft} {files files' : FileStore} {old new : D} {most : ℕ} {fault : Type 0} (other : Type 0) → (fault → other) → (other → fault) → Works on drafts drafts' files files' old new most fault
      → Works on drafts drafts' files files' old new most other
  works_as {drafts} {drafts'} {files} {files'} {old} {new} {most} {fault} other to from works = record {
    only = works.only;
    range = works.range;
    more = works.more;
    added = works.added;
    taken = works.taken;
    used = works.used;
    others = works.others;
    held = works.held;
    spends = (works.spends.0, spends_as on works.spends.0 most old new fault other to from works.spends.1);
  }

  -- one after another, of which the first did not fail
  pub works_then : {drafts middle drafts' : List Draft} {files between files' : FileStore} {old mid new : D} {most more : ℕ} {failed fault : Type 0} → (failed → ⊥)
      → Works on drafts middle files between old mid most failed → Works on middle drafts' between files' mid new more fault → Works on drafts drafts' files files' old new (most + more) fault
  works_then {drafts} {middle} {drafts'} {files} {between} {files'} {old} {mid} {new} {most} {more} {failed} {fault} none first second = record {
    only = lines_only on files between (blocks_of_all first.more) old mid new first.taken first.range.base first.only second.only;
    range = range_then files between files' first.range second.range;
    more = first.more ++ second.more;
    added = second.added ∙ ap (λ (l : List Draft). l ++ second.more) first.added ∙ append_assoc drafts first.more second.more;
    taken = first.taken ∙ ap (λ (l : List ℕ). blocks_of_all first.more ++ l) second.taken ∙ sym (append_assoc (blocks_of_all first.more) (blocks_of_all second.more) (free_of files'))
        ∙ ap (λ (l : List ℕ). l ++ free_of files') (sym (flat_map-append draft_blocks first.more second.more));
    used = second.used;
    others = λ others before. second.others others (first.others others before);
    held = λ contents held.
        held_stay (store_base files) (free_of between) (on.seen mid) (on.seen new) drafts contents in_use
        (subst (λ (base : ℕ). KeepsOutside base (free_of between) (on.seen mid) (on.seen new)) first.range.base second.only.reads) (first.held contents held);
    spends = (
      first.spends.0 + second.spends.0,
      spends_then on first.spends.0 most second.spends.0 more old mid new fault (spends_as on first.spends.0 most old mid failed ⊥ none (λ no. absurd no) first.spends.1) second.spends.1,
    );
  }
    where
      -- the blocks of the first drafts are in use still
      in_use : ShareNone (blocks_of_all drafts) (free_of between)
      in_use block there free =
          apart_other (blocks_of_all middle) (free_of between) block first.used.apart
          (subst (λ (l : List ℕ). Contains l block) (sym (ap blocks_of_all first.added ∙ flat_map-append draft_blocks drafts first.more)) (Contains-append_left (blocks_of_all drafts) (blocks_of_all first.more) block there)) free
