-- Several calls one after another, for the layer above: what was free as they began, and what was written since.
use Rattle.std.proofs.Common.{◌≡◌, ℕ, List, [], ◌∷◌, ◌++◌, sym, ◌∙◌, ap, subst, Contains}
use Rattle.std.proofs.lemmas.List.{append_assoc}
use Rattle.std.proofs.lemmas.List.Elements.{Contains-append_right}
use Rattle.disks.specs.declared.disk.Disk.{Ghosts}
use Rattle.file_store.specs.Stores.{blocks_of_all, draft_blocks, free_of, store_base}
use Rattle.file_store.specs.Writes.{WritesOnly}
use Rattle.file_store.specs.declared.draft.Draft.{Draft}
use Rattle.file_store.specs.declared.store.FileStore.{FileStore}
use Rattle.file_store.proofs.GivenUp.{last_of}
use Rattle.file_store.proofs.KeptContents.{writes_then}
use Rattle.line_drafts.proofs.KeptDrafts.{only_wider}

-- nothing was written but in blocks that were free as the first call began
pub lines_only : {D : Type 0} (on : Ghosts D) (first store : FileStore) (given : List ℕ) (begun old new : D) → free_of first ≡ given ++ free_of store → store_base store ≡ store_base first
    → WritesOnly on (store_base first) (free_of first) begun old → WritesOnly on (store_base store) (free_of store) old new → WritesOnly on (store_base first) (free_of first) begun new
lines_only on first store given begun old new handed base earlier later =
    writes_then on (store_base first) (free_of first) begun old new earlier
    (only_wider on (store_base first) (free_of store) (free_of first) old new
    (λ block there. subst (λ (l : List ℕ). Contains l block) (sym handed) (Contains-append_right given (free_of store) block there))
    (subst (λ (b : ℕ). WritesOnly on b (free_of store) old new) base later))

-- the blocks of all drafts were the first of those, so giving them up leaves what was free then
pub lines_given : (first store last : FileStore) (drafts drafts' : List Draft) (draft : Draft) → free_of first ≡ blocks_of_all drafts ++ free_of store → drafts' ≡ drafts ++ draft ∷ []
    → free_of store ≡ draft_blocks draft ++ free_of last → free_of first ≡ blocks_of_all drafts' ++ free_of last
lines_given first store last drafts drafts' draft given added handed =
    given ∙ ap (λ (l : List ℕ). blocks_of_all drafts ++ l) handed ∙ sym (append_assoc (blocks_of_all drafts) (draft_blocks draft) (free_of last))
    ∙ ap (λ (l : List ℕ). l ++ free_of last) (sym (last_of drafts draft) ∙ ap blocks_of_all (sym added))
