-- Which blocks are in use once some were taken.
use Rattle.std.proofs.Common.{◌≡◌, ◌∙◌, ◌<◌, ◌++◌, sym, ap, subst, ℕ, List, All, length, arith}
use Rattle.std.proofs.lemmas.List.{get_or_append_left, length-append}
use Rattle.small_types.specs.Blocks.{AreApart}
use Rattle.small_types.specs.declared.room.Room.{Room}
use Rattle.file_store.specs.Stores.{AreUsed, SameRange, block_count, free_of}
use Rattle.file_store.specs.declared.store.FileStore.{FileStore}
use Rattle.file_store.proofs.Apart.{all_reverse, apart_back}
use Rattle.file_store.proofs.UsedBlocks.{count_more, used_more}
use Rattle.install_plan.specs.Blocks.{UsesBlocks}

-- each free block is one of the store's
free_below : (files : FileStore) → All (λ b. b < block_count files) (free_of files)
free_below files = all_reverse (λ b. b < block_count files) files.free.items files.below

module _ (old new : FileStore) (room : Room) (held : List ℕ) (uses : UsesBlocks old room held) (range : SameRange old new) where
  -- the same blocks are free
  pub uses_still : free_of new ≡ free_of old → UsesBlocks new room held
  uses_still same = record {
    used = record {
      within = subst (λ (n : ℕ). All (λ b. b < n) held) (sym range.number) uses.used.within;
      apart = subst (λ (l : List ℕ). AreApart (held ++ l)) (sym same) uses.used.apart;
    };
    all = omega (arith, uses.all, ap length same);
    number = range.number ∙ uses.number;
    base = range.base ∙ uses.base;
  }

  -- some of these were taken
  module _ (taken : List ℕ) (is : free_of old ≡ taken ++ free_of new) where
    taken_below : All (λ b. b < block_count new) taken
    taken_below k d low =
        subst (λ (n : ℕ). n < block_count new) (get_or_append_left taken (free_of new) d k low)
        (subst (λ (l : List ℕ). All (λ b. b < block_count new) l) is
        (subst (λ (n : ℕ). All (λ b. b < n) (free_of old)) (sym range.number) (free_below old)) k d
        (omega (arith, low, length-append taken (free_of new))))

    taken_used : AreUsed new taken
    taken_used = record {
      within = taken_below;
      apart = subst AreApart is (apart_back held (free_of old) uses.used.apart);
    }

    pub uses_taken : UsesBlocks new room (held ++ taken)
    uses_taken = record {
      used = used_more old new held taken uses.used is taken_used range;
      all = count_more old new held taken (uses.all ∙ sym uses.number) is range ∙ range.number ∙ uses.number;
      number = range.number ∙ uses.number;
      base = range.base ∙ uses.base;
    }
