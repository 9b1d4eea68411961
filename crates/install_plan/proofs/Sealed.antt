-- How the drafts of a line end: sealed, or given up.
use Rattle.std.proofs.Common.{◌≡◌, ◌∙◌, ◌++◌, ℕ, List, map, Result, Ok, Err, refl, sym, ap, subst, arith}
use Rattle.disks.specs.declared.disk.Disk.{Ghosts}
use Rattle.disks.specs.Moments.{Each, LeavesOnly}
use Rattle.disks.specs.Spends.{Spends}
use Rattle.disks.proofs.Books.{spends_as, spends_none, spends_within}
use Rattle.disks.proofs.MomentLemmas.{started}
use Rattle.file_store.specs.Stores.{SameRange, blocks_of_all, draft_blocks, free_of, store_base}
use Rattle.file_store.specs.declared.draft.Draft.{Draft}
use Rattle.file_store.specs.declared.store.FileStore.{FileStore}
use Rattle.line_drafts.specs.declared.fault.DraftFault.{DraftFault}
use Rattle.line_drafts.specs.declared.fault.DraftFault.TheVariants.{DiskFault}
use Rattle.line_drafts.specs.Held.{AreContents, AreHeld}
use Rattle.machine.specs.declared.reply.Reply.{Reply}
use Rattle.install_plan.specs.declared.drafted.Drafted.{Drafted}
use Rattle.install_plan.specs.declared.lack.Lack.{Lack}
use Rattle.install_plan.specs.declared.lack.Lack.TheVariants as by
use Rattle.install_plan.specs.declared.prepared.PreparedFiles.{PreparedFiles}
use Rattle.install_plan.specs.declared.prepared.PreparedFiles.TheVariants as to
use Rattle.install_plan.specs.Drafted.{EndsAs, Seals}

module _ {D : Type 0} (on : Ghosts D) (drafts : List Draft) (drafted : Result Drafted Lack)
    (files last : FileStore) (range : SameRange files last) where
  -- by a sync
  module _ (old new : D) (seen : on.seen new ≡ on.seen old)
      (stop : LeavesOnly on old new (on.left_at old (on.moment old)))
      (answer : Result (List (List ℕ)) DraftFault)
      (spends : Spends on 1 0 old new (answer ≡ Err DiskFault)) where
    pub sealed : (made : Drafted) (lists : List (List ℕ)) → answer ≡ Ok lists
        → lists ≡ map draft_blocks drafts → last ≡ files
        → ((contents : List (List ℕ))
        → AreHeld (store_base files) drafts contents (on.seen old)
        → Each on new (AreContents (store_base files) lists contents))
        → Seals on drafts drafted files last old new
        (to.Change made.change made.reply made.taken made.unused)
    sealed made lists well are same each = record {
      range = range;
      free = same;
      contents = λ contents held.
          subst (λ (ls : List (List ℕ)). Each on new (AreContents (store_base files) ls contents))
          are (each contents held);
      seen = seen;
      stop = stop;
      spends = spends_as on 1 0 old new _ _ (λ is. absurd (let no = sym well ∙ is in cc))
          (λ is. absurd (let no = is.0 in cc)) spends;
    }

    pub unsealed : (made : Drafted) (fault : DraftFault) → answer ≡ Err fault → fault ≡ DiskFault
        → drafted ≡ Ok made → free_of last ≡ blocks_of_all drafts ++ free_of files
        → Seals on drafts drafted files last old new to.DiskFault
    unsealed made fault ill is was freed = record {
      range = range;
      free = freed;
      contents = tt;
      seen = seen;
      stop = stop;
      spends = spends_as on 1 0 old new _ _ (λ e. (refl, (λ no. absurd (let never = sym was ∙ no in cc))))
          (λ e. ill ∙ ap Err is) spends;
    }

  -- by no call
  module _ (disk : D) (freed : free_of last ≡ blocks_of_all drafts ++ free_of files) where
    none_spent : (fault : Type 0) → (fault → ⊥) → Spends on 1 0 disk disk fault
    none_spent fault none =
        spends_as on 1 0 disk disk ⊥ fault (λ no. absurd no) none
        (spends_within on 0 0 1 0 disk disk ⊥ (omega arith) (omega arith) (spends_none on disk))

    pub given_up : (reply : Reply) → Seals on drafts drafted files last disk disk (to.Reply reply)
    given_up reply = record {
      range = range;
      free = freed;
      contents = tt;
      seen = refl;
      stop = started on disk (on.left_at disk (on.moment disk)) (λ c is. is);
      spends = none_spent _ (λ is. let no = is.0 in cc);
    }

    pub failed : drafted ≡ Err by.DiskFault
        → Seals on drafts drafted files last disk disk to.DiskFault
    failed was = record {
      range = range;
      free = freed;
      contents = tt;
      seen = refl;
      stop = started on disk (on.left_at disk (on.moment disk)) (λ c is. is);
      spends = none_spent _ (λ is. is.1 was);
    }

    pub lacking : (lack : Lack) (ended : PreparedFiles) → drafted ≡ Err lack
        → EndsAs (Err lack) ended → Seals on drafts drafted files last disk disk ended
    lacking (by.Reply reply) ended was is =
        subst (Seals on drafts drafted files last disk disk) (sym is) (given_up reply)
    lacking by.DiskFault ended was is =
        subst (Seals on drafts drafted files last disk disk) (sym is) (failed was)
