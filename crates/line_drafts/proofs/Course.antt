-- A call that adds a draft, from the blocks that it takes to its end.
use Rattle.std.proofs.Common.{◌≡◌, ℕ, List, [], ◌∷◌, ◌++◌, length, refl, sym, ◌∙◌, ap, subst}
use Rattle.std.proofs.lemmas.List.{append-nil}
use Rattle.disks.specs.declared.disk.Disk.{Ghosts}
use Rattle.file_store.specs.Stores.{AreUsed, DraftHolds, SameRange, blocks_of_all, draft_blocks, draft_size, free_of, store_base}
use Rattle.file_store.specs.Writes.{WritesOnly}
use Rattle.file_store.specs.declared.draft.Draft.{Draft}
use Rattle.file_store.specs.declared.store.FileStore.{FileStore}
use Rattle.file_store.proofs.GivenUp.{range_then}
use Rattle.file_store.proofs.BlockWrites.{only_start}
use Rattle.line_drafts.specs.Added.{AddsDraft, AddsNone, AddsOne, StayUsed}
use Rattle.line_drafts.specs.Works.{SpendsWithin, Works}
use Rattle.line_drafts.proofs.Ends.{nothing_spent}
use Rattle.line_drafts.proofs.KeptDrafts.{adds_draft, adds_none, drafts_stay, only_free, used_same, used_with}

module _ {D : Type 0} (on : Ghosts D) (drafts : List Draft) (store : FileStore) (used : AreUsed store (blocks_of_all drafts)) where
  -- no blocks were taken
  module _ (disk : D) (last : FileStore) (kept : last ≡ store) (range : SameRange store last) where
    pub none_only : WritesOnly on (store_base store) (free_of store) disk disk
    none_only = only_start on (store_base store) (free_of store) disk

    pub none_adds : AddsNone on drafts drafts store last disk disk
    none_adds = adds_none on drafts store used disk disk none_only drafts last refl (ap free_of kept)

    pub none_others : StayUsed drafts drafts store last
    none_others = used_same drafts drafts store last refl (ap free_of kept) range

    pub none_used : AreUsed last (blocks_of_all drafts)
    none_used = none_others [] used

    pub none_works : (most : ℕ) (fault : Type 0) → (fault → ⊥) → Works on drafts drafts store last disk disk most fault
    none_works most fault none = record {
      only = none_only;
      range = range;
      more = [];
      added = sym (append-nil drafts);
      taken = sym (ap free_of kept);
      used = none_used;
      others = none_others;
      held = λ contents held. held;
      spends = (0, nothing_spent on 0 most disk fault none);
    }

  -- blocks were taken, and only they were written
  module _ (mid here : FileStore) (begun draft : Draft) (old new : D) (takes : free_of store ≡ draft_blocks begun ++ free_of mid) (there : AreUsed mid (draft_blocks begun)) (range : SameRange store mid)
      (same : draft_blocks draft ≡ draft_blocks begun) (stays : here ≡ mid) (only : WritesOnly on (store_base mid) (draft_blocks begun) old new) where
    pub only_taken : WritesOnly on (store_base store) (free_of store) old new
    only_taken =
        only_free on (store_base store) (draft_blocks begun) (free_of mid) (free_of store) old new takes
        (subst (λ (base : ℕ). WritesOnly on base (draft_blocks begun) old new) range.base only)

    pub used_here : AreUsed here (draft_blocks draft)
    used_here = subst (λ (s : FileStore). AreUsed s (draft_blocks draft)) (sym stays) (subst (AreUsed mid) (sym same) there)

    range_here : SameRange store here
    range_here = subst (SameRange store) (sym stays) range

    handed : free_of store ≡ draft_blocks draft ++ free_of here
    handed = takes ∙ ap (λ (l : List ℕ). l ++ free_of mid) (sym same) ∙ ap (λ (s : FileStore). draft_blocks draft ++ free_of s) (sym stays)

    -- the draft was given up
    module _ (drafts' : List Draft) (last : FileStore) (kept : drafts' ≡ drafts) (freed : free_of last ≡ draft_blocks draft ++ free_of here) (range' : SameRange here last) where
      pub up_range : SameRange store last
      up_range = range_then store here last range_here range'

      free : free_of last ≡ free_of store
      free = freed ∙ sym handed

      pub up_adds : AddsNone on drafts drafts' store last old new
      up_adds = adds_none on drafts store used old new only_taken drafts' last kept free

      pub up_others : StayUsed drafts drafts' store last
      up_others = used_same drafts drafts' store last kept free up_range

      pub up_used : AreUsed last (blocks_of_all drafts')
      up_used = up_others [] used

      pub up_works : (most : ℕ) (fault : Type 0) → SpendsWithin on most old new fault → Works on drafts drafts' store last old new most fault
      up_works most fault spends = record {
        only = only_taken;
        range = up_range;
        more = [];
        added = kept ∙ sym (append-nil drafts);
        taken = sym free;
        used = up_used;
        others = up_others;
        held = drafts_stay on drafts store used old new only_taken;
        spends = spends;
      }

    -- it was added
    module _ (drafts' : List Draft) (last : FileStore) (added : drafts' ≡ drafts ++ draft ∷ []) (still : last ≡ here) where
      pub kept_range : SameRange store last
      kept_range = subst (SameRange store) (sym still) range_here

      taken : free_of store ≡ draft_blocks draft ++ free_of last
      taken = handed ∙ ap (λ (s : FileStore). draft_blocks draft ++ free_of s) (sym still)

      pub kept_others : StayUsed drafts drafts' store last
      kept_others = used_with drafts drafts' store last draft added taken (subst (λ (s : FileStore). AreUsed s (draft_blocks draft)) (sym still) used_here) kept_range

      pub kept_used : AreUsed last (blocks_of_all drafts')
      kept_used = kept_others [] used

      pub kept_adds : (bytes : List ℕ) → draft_size draft ≡ length bytes → DraftHolds (store_base mid) draft bytes (on.seen new) → AddsDraft on drafts drafts' store last old new bytes
      kept_adds bytes size holds =
          adds_draft on drafts store used old new only_taken drafts' last draft bytes added taken size
          (subst (λ (base : ℕ). DraftHolds base draft bytes (on.seen new)) range.base holds)

      pub kept_one : (size : ℕ) → draft_size draft ≡ size → AddsOne drafts drafts' size
      kept_one size is = record { draft = draft; added = added; size = is }

      pub kept_works : (most : ℕ) (fault : Type 0) → SpendsWithin on most old new fault → Works on drafts drafts' store last old new most fault
      kept_works most fault spends = record {
        only = only_taken;
        range = kept_range;
        more = draft ∷ [];
        added = added;
        taken = taken ∙ ap (λ (l : List ℕ). l ++ free_of last) (sym (append-nil (draft_blocks draft)));
        used = kept_used;
        others = kept_others;
        held = drafts_stay on drafts store used old new only_taken;
        spends = spends;
      }
