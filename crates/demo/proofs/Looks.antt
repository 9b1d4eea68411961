-- Looks at kept files, one after another.
use Rattle.std.proofs.Common.{◌≡◌, ◌↔◌, ◌∙◌, ℕ, Bool, true, false, List, Some, Result, Ok, Err, Contains, refl, sym, subst}
use Rattle.std.specs.Prelude.{IsTrue}
use Rattle.small_types.specs.declared.room.Room.{Room}
use Rattle.disks.specs.declared.disk.Disk.{Ghosts}
use Rattle.disks.specs.Moments.{Untouched}
use Rattle.disks.specs.Spends.{Spends}
use Rattle.disks.proofs.MomentLemmas.{untouched_more, untouched_start}
use Rattle.machine.specs.Store.{Session}
use Rattle.machine.proofs.FirstFound.{find_in}
use Rattle.machine.proofs.Members.{contains_in}
use Rattle.manifests.specs.declared.facts.FileEntry.{FileEntry}
use Rattle.store_state.specs.declared.view.Content.{Content}
use Rattle.store_state.specs.Contents.{content_of, is_content_of}
use Rattle.store_state.specs.Stored.{content_bytes}
use Rattle.table_log.proofs.Images.{stays_read}
use Rattle.updater.specs.Shown.{Updater}
use Rattle.updater.specs.Updater.{Holds}
use Rattle.updater.proofs.HeldStore.{holds_read}
use Rattle.demo.specs.declared.fault.DemoFault.{DemoFault}
use Rattle.demo.specs.declared.fault.DemoFault.TheVariants.{DiskFault}
use Rattle.demo.specs.Parts.{IsNeitherFault, Looks, Touches}
use Rattle.demo.proofs.Touches.{after, nothing, untouched, with_answer, with_fault}

-- the content that is found is one of them
pub found_there : (contents : List Content) (entry : FileEntry) (content : Content)
    → Some content ≡ content_of contents entry → Contains contents content
found_there contents entry content found =
    contains_in contents content (find_in (is_content_of entry) contents content (sym found)).0

module _ {D : Type 0} (on : Ghosts D) (updater : Updater) where
  -- nothing was looked at
  pub looks_nowhere : (P : Room → List ℕ → Type 0) (disk : D) → Looks on P updater disk (Ok false) disk
  looks_nowhere P disk = record {
    same = λ tells session holds yes. absurd (cc (yes));
    still = untouched_start on disk;
    touches = nothing on disk false;
  }

  -- nothing is to be looked at
  pub looks_none : (P : Room → List ℕ → Type 0) (disk : D)
      → ((room : Room) (image : List ℕ) → P room image) → Looks on P updater disk (Ok true) disk
  looks_none P disk all = record {
    same = λ tells session holds yes. all session.store.room (on.seen disk);
    still = untouched_start on disk;
    touches = nothing on disk true;
  }

  pub looks_lacking : (P : Room → List ℕ → Type 0) (disk : D) (fault : DemoFault) → IsNeitherFault fault
      → Looks on P updater disk (Err fault) disk
  looks_lacking P disk fault other = record {
    same = λ tells session holds. tt;
    still = untouched_start on disk;
    touches = untouched on disk fault other;
  }

  -- what an answer says has a consequence
  pub looks_so : (P Q : Room → List ℕ → Type 0) (old new : D) (result : Result Bool DemoFault)
      → ((room : Room) (image : List ℕ) → P room image → Q room image)
      → Looks on P updater old result new → Looks on Q updater old result new
  looks_so P Q old new (Ok same) then looks = record {
    same = λ tells session holds yes.
        then session.store.room (on.seen old) (looks.same tells session holds yes);
    still = looks.still;
    touches = looks.touches;
  }
  looks_so P Q old new (Err fault) then looks = record {
    same = λ tells session holds. tt;
    still = looks.still;
    touches = looks.touches;
  }

  -- a look that was answered by true, and another one
  pub looks_then : (P Q R : Room → List ℕ → Type 0) (old mid new : D) (same : Bool) → IsTrue same
      → ((room : Room) (image : List ℕ) → P room image → Q room image → R room image)
      → Looks on P updater old (Ok true) mid → Looks on Q updater mid (Ok same) new
      → Looks on R updater old (Ok true) new
  looks_then P Q R old mid new same so both first second = record {
    same = λ tells session holds is.
        let there = holds_read on updater old
        (λ log room tables a b opened rests. stays_read on log room tables a b opened rests)
        mid session first.still holds in
        let one : P session.store.room (on.seen old) =
        first.same (second.touches.told tells) session holds refl in
        let two : Q session.store.room (on.seen mid) = second.same tells session there so in
        both session.store.room (on.seen old) one
        (subst (Q session.store.room) first.still.same_reads two);
    still = untouched_more on old mid new first.still second.still;
    touches = after on first.touches (with_answer on true second.touches);
  }

  -- the other one was answered by false
  pub looks_no : (P Q R : Room → List ℕ → Type 0) (old mid new : D) (same : Bool)
      → Looks on P updater old (Ok true) mid → Looks on Q updater mid (Ok same) new
      → Looks on R updater old (Ok false) new
  looks_no P Q R old mid new same first second = record {
    same = λ tells session holds yes. absurd (cc (yes));
    still = untouched_more on old mid new first.still second.still;
    touches = after on first.touches (with_answer on false second.touches);
  }

  -- the other one failed
  pub looks_fault : (P Q R : Room → List ℕ → Type 0) (old mid new : D) (fault : DemoFault)
      → Looks on P updater old (Ok true) mid → Looks on Q updater mid (Err fault) new
      → Looks on R updater old (Err fault) new
  looks_fault P Q R old mid new fault first second = record {
    same = λ tells session holds. tt;
    still = untouched_more on old mid new first.still second.still;
    touches = after on first.touches (with_fault on fault second.touches);
  }

  -- ---- a content

  -- it was compared with what was made
  pub looks_compared : (old new : D) (content : Content) (made text : List ℕ) (same : Bool)
      (fault : Type 0) → made ≡ text → (fault → ⊥)
      → (on.tells new → (session : Session) → Holds on updater old session
      → IsTrue same ↔ (content_bytes session.store.room (on.seen old) content ≡ made))
      → Untouched on old new → Spends on 0 0 old new fault
      → Looks on (λ room image. content_bytes room image content ≡ text) updater old (Ok same) new
  looks_compared old new content made text same fault is none says still spends = record {
    same = λ tells session holds yes. (says tells session holds).0 yes ∙ is;
    still = still;
    touches = record {
      told = spends.told;
      later = spends.later;
      count = spends.count;
      cause = λ is. absurd (cc (is));
      quiet = λ other. spends.quiet none;
      store = λ tells is. cc (is);
    };
  }

  -- the disk failed
  pub looks_unread : (P : Room → List ℕ → Type 0) (old new : D) (fault : Type 0) → fault
      → Untouched on old new → Spends on 0 0 old new fault → Looks on P updater old (Err DiskFault) new
  looks_unread P old new fault there still spends = record {
    same = λ tells session holds. tt;
    still = still;
    touches = record {
      told = spends.told;
      later = spends.later;
      count = spends.count;
      cause = λ is. spends.cause there;
      quiet = λ other. absurd (other refl);
      store = λ tells is. cc (is);
    };
  }
