-- Drafts that are given up one after another, from the last one on.
use Rattle.std.proofs.Common.{◌≡◌, ℕ, List, [], ◌∷◌, ◌++◌, sym, ◌∙◌, ap, subst}
use Rattle.std.proofs.lemmas.List.{append_assoc, append-nil}
use Rattle.std.proofs.lemmas.Grind.{flat_map-append}
use Rattle.file_store.specs.Stores.{AreUsed, SameRange, blocks_of_all, draft_blocks, free_of}
use Rattle.file_store.specs.declared.draft.Draft.{Draft}
use Rattle.file_store.specs.declared.store.FileStore.{FileStore}
use Rattle.file_store.proofs.UsedBlocks.{used_less, used_part}

-- the last draft, and those before it
pub last_of : (rest : List Draft) (draft : Draft) → blocks_of_all (rest ++ draft ∷ []) ≡ blocks_of_all rest ++ draft_blocks draft
last_of rest draft = flat_map-append draft_blocks rest (draft ∷ []) ∙ ap (λ (l : List ℕ). blocks_of_all rest ++ l) (append-nil (draft_blocks draft))

module _ (store : FileStore) (all rest : List Draft) (draft : Draft) (is : all ≡ rest ++ draft ∷ []) (used : AreUsed store (blocks_of_all all)) where
  split : blocks_of_all all ≡ blocks_of_all rest ++ (draft_blocks draft ++ [])
  split = ap blocks_of_all is ∙ last_of rest draft ∙ ap (λ (l : List ℕ). blocks_of_all rest ++ l) (sym (append-nil (draft_blocks draft)))

  listed : AreUsed store (blocks_of_all rest ++ (draft_blocks draft ++ []))
  listed = subst (AreUsed store) split used

  pub last_used : AreUsed store (draft_blocks draft)
  last_used = used_part store (blocks_of_all rest) (draft_blocks draft) [] listed

  pub others_used : (new : FileStore) → free_of new ≡ draft_blocks draft ++ free_of store → SameRange store new → AreUsed new (blocks_of_all rest)
  others_used new freed same = subst (AreUsed new) (append-nil (blocks_of_all rest)) (used_less store (blocks_of_all rest) (draft_blocks draft) [] listed new freed same)

  -- what is free once all are given up
  pub free_then : (new : FileStore) → free_of new ≡ draft_blocks draft ++ free_of store → blocks_of_all rest ++ free_of new ≡ blocks_of_all all ++ free_of store
  free_then new freed =
      ap (λ (l : List ℕ). blocks_of_all rest ++ l) freed
      ∙ sym (append_assoc (blocks_of_all rest) (draft_blocks draft) (free_of store))
      ∙ ap (λ (l : List ℕ). l ++ free_of store) (sym (last_of rest draft) ∙ sym (ap blocks_of_all is))

pub range_then : (old mid new : FileStore) → SameRange old mid → SameRange mid new → SameRange old new
range_then old mid new first second = record { number = second.number ∙ first.number; base = second.base ∙ first.base }
