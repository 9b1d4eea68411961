-- Two drafts in a list.
use Rattle.std.proofs.Common.{◌≡◌, ℕ, List, [], ◌∷◌, ◌++◌, sym, subst, All}
use Rattle.std.proofs.lemmas.List.{append-nil}
use Rattle.std.proofs.lemmas.List.Elements.{All-cons, All-nil}
use Rattle.file_store.specs.Stores.{AreUsed, SameRange, draft_blocks, blocks_of_all, filled_of, free_of, draft_size}
use Rattle.file_store.specs.declared.draft.Draft.{Draft}
use Rattle.file_store.specs.declared.store.FileStore.{FileStore}
use Rattle.file_store.proofs.UsedBlocks.{used_more}

pub both_whole : (drafts : List Draft) (first second : Draft) → drafts ≡ first ∷ second ∷ [] → filled_of first ≡ draft_size first → filled_of second ≡ draft_size second → All (λ draft. filled_of draft ≡ draft_size draft) drafts
both_whole drafts first second is one two =
    subst (All (λ draft. filled_of draft ≡ draft_size draft)) (sym is)
    (All-cons (λ draft. filled_of draft ≡ draft_size draft) first (second ∷ []) one
    (All-cons (λ draft. filled_of draft ≡ draft_size draft) second [] two (All-nil (λ draft. filled_of draft ≡ draft_size draft))))

pub both_used : (store : FileStore) (drafts : List Draft) (first second : Draft) → drafts ≡ first ∷ second ∷ [] → AreUsed store (draft_blocks first ++ draft_blocks second) → AreUsed store (blocks_of_all drafts)
both_used store drafts first second is used =
    subst (λ (l : List Draft). AreUsed store (blocks_of_all l)) (sym is)
    (subst (λ (l : List ℕ). AreUsed store (draft_blocks first ++ l)) (sym (append-nil (draft_blocks second))) used)

-- the blocks of two drafts that were begun one after the other, and then written
pub two_used : (old mid new : FileStore) (first second first' second' : Draft) → AreUsed old (draft_blocks first) → free_of old ≡ draft_blocks second ++ free_of mid → AreUsed mid (draft_blocks second) → SameRange old mid
    → new ≡ mid → draft_blocks first' ≡ draft_blocks first → draft_blocks second' ≡ draft_blocks second → AreUsed new (draft_blocks first' ++ draft_blocks second')
two_used old mid new first second first' second' before handed there range same one two =
    subst (λ (s : FileStore). AreUsed s (draft_blocks first' ++ draft_blocks second')) (sym same)
    (subst (λ (l : List ℕ). AreUsed mid (l ++ draft_blocks second')) (sym one)
    (subst (λ (l : List ℕ). AreUsed mid (draft_blocks first ++ l)) (sym two)
    (used_more old mid (draft_blocks first) (draft_blocks second) before handed there range)))
