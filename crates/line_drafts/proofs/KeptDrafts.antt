-- What drafts hold and which blocks are in use, over a call that writes free blocks.
use Rattle.std.proofs.Common.{◌≡◌, ℕ, ◌<◌, List, [], ◌∷◌, ◌++◌, length, sym, ◌∙◌, ap, subst, All, Contains}
use Rattle.std.proofs.lemmas.List.{append_assoc}
use Rattle.std.proofs.lemmas.List.Elements.{All-nil, Contains-append_left, Contains-append_right}
use Rattle.std.proofs.lemmas.Slice.Zip.{all_zipped_more}
use Rattle.disks.specs.declared.disk.Disk.{Ghosts}
use Rattle.disks.proofs.MomentLemmas.{weaker}
use Rattle.small_types.specs.Blocks.{AreApart, KeepsOutside, ShareNone}
use Rattle.file_store.specs.Stores.{AreUsed, DraftHolds, SameRange, block_count, blocks_of_all, draft_blocks, draft_size, free_of, store_base}
use Rattle.file_store.specs.Writes.{IsOldOutsideBlocks, WritesOnly}
use Rattle.file_store.specs.declared.draft.Draft.{Draft}
use Rattle.file_store.specs.declared.store.FileStore.{FileStore}
use Rattle.file_store.proofs.Apart.{apart_other, apart_reverse}
use Rattle.file_store.proofs.GivenUp.{last_of}
use Rattle.file_store.proofs.KeptContents.{holds_stays}
use Rattle.file_store.proofs.UsedBlocks.{used_more}
use Rattle.line_drafts.specs.Added.{AddsDraft, AddsNone, StayUsed}
use Rattle.line_drafts.specs.Held.{AreHeld}

-- what stays outside some blocks stays outside more of them
keeps_wider : (base : ℕ) (few many old new : List ℕ) → ((block : ℕ) → Contains few block → Contains many block) → KeepsOutside base few old new → KeepsOutside base many old new
unfolding KeepsOutside
keeps_wider base few many old new inside keeps place within outside = keeps place within (λ block listed there. outside block (inside block listed) there)

-- writes into some blocks are writes into more of them
pub only_wider : {D : Type 0} (on : Ghosts D) (base : ℕ) (few many : List ℕ) (old new : D) → ((block : ℕ) → Contains few block → Contains many block) → WritesOnly on base few old new → WritesOnly on base many old new
only_wider on base few many old new inside writes = record {
  stops = weaker on old new (IsOldOutsideBlocks base few (on.left_at old (on.moment old))) (IsOldOutsideBlocks base many (on.left_at old (on.moment old)))
      (λ c outside. (outside.0, outside.1, keeps_wider base few many outside.0 c inside outside.2)) writes.stops;
  reads = keeps_wider base few many (on.seen old) (on.seen new) inside writes.reads;
}

-- so are writes into blocks that were handed out
pub only_free : {D : Type 0} (on : Ghosts D) (base : ℕ) (taken left all : List ℕ) (old new : D) → all ≡ taken ++ left → WritesOnly on base taken old new → WritesOnly on base all old new
only_free on base taken left all old new handed writes =
    only_wider on base taken all old new (λ block there. subst (λ (l : List ℕ). Contains l block) (sym handed) (Contains-append_left taken left block there)) writes

-- drafts hold what they held, where none of their blocks was written
pub held_stay : (base : ℕ) (written old new : List ℕ) (drafts : List Draft) (contents : List (List ℕ)) → ShareNone (blocks_of_all drafts) written → KeepsOutside base written old new
    → AreHeld base drafts contents old → AreHeld base drafts contents new
held_stay base written old new [] [] none keeps held = held
held_stay base written old new [] (content ∷ contents) none keeps held = held
held_stay base written old new (draft ∷ drafts) [] none keeps held = held
held_stay base written old new (draft ∷ drafts) (content ∷ contents) none keeps held = (
  holds_stays base draft written content old new (λ block there. none block (Contains-append_left (draft_blocks draft) (blocks_of_all drafts) block there)) keeps held.0,
  held_stay base written old new drafts contents (λ block there. none block (Contains-append_right (draft_blocks draft) (blocks_of_all drafts) block there)) keeps held.1,
)

-- a call that writes free blocks alone
module _ {D : Type 0} (on : Ghosts D) (drafts : List Draft) (store : FileStore) (used : AreUsed store (blocks_of_all drafts)) (old new : D) (only : WritesOnly on (store_base store) (free_of store) old new) where
  pub drafts_stay : (contents : List (List ℕ)) → AreHeld (store_base store) drafts contents (on.seen old) → AreHeld (store_base store) drafts contents (on.seen new)
  drafts_stay contents held =
      held_stay (store_base store) (free_of store) (on.seen old) (on.seen new) drafts contents (λ block there free. apart_other (blocks_of_all drafts) (free_of store) block used.apart there free) only.reads held

  -- and added no draft
  pub adds_none : (drafts' : List Draft) (store' : FileStore) → drafts' ≡ drafts → free_of store' ≡ free_of store → AddsNone on drafts drafts' store store' old new
  adds_none drafts' store' same free = record {
    drafts = same;
    blocks = free;
    held = λ contents held. subst (λ (l : List Draft). AreHeld (store_base store) l contents (on.seen new)) (sym same) (drafts_stay contents held);
  }

  -- or one that holds these bytes
  pub adds_draft : (drafts' : List Draft) (store' : FileStore) (draft : Draft) (bytes : List ℕ) → drafts' ≡ drafts ++ draft ∷ [] → free_of store ≡ draft_blocks draft ++ free_of store'
      → draft_size draft ≡ length bytes → DraftHolds (store_base store) draft bytes (on.seen new) → AddsDraft on drafts drafts' store store' old new bytes
  adds_draft drafts' store' draft bytes added handed size holds = record {
    draft = draft;
    added = added;
    blocks = handed;
    size = size;
    held = λ contents held.
        subst (λ (l : List Draft). AreHeld (store_base store) l (contents ++ bytes ∷ []) (on.seen new)) (sym added)
        (all_zipped_more (λ (d : Draft) (content : List ℕ). DraftHolds (store_base store) d content (on.seen new)) drafts contents draft bytes (drafts_stay contents held) holds);
  }

-- the same blocks are in use
pub used_same : (drafts drafts' : List Draft) (old new : FileStore) → drafts' ≡ drafts → free_of new ≡ free_of old → SameRange old new → StayUsed drafts drafts' old new
used_same drafts drafts' old new same free range others before =
    subst (λ (l : List Draft). AreUsed new (others ++ blocks_of_all l)) (sym same) (record {
      within = subst (λ (n : ℕ). All (λ b. b < n) (others ++ blocks_of_all drafts)) (sym range.number) before.within;
      apart = subst (λ (l : List ℕ). AreApart ((others ++ blocks_of_all drafts) ++ l)) (sym free) before.apart;
    })

-- or those of a draft more
pub used_with : (drafts drafts' : List Draft) (old new : FileStore) (draft : Draft) → drafts' ≡ drafts ++ draft ∷ [] → free_of old ≡ draft_blocks draft ++ free_of new → AreUsed new (draft_blocks draft)
    → SameRange old new → StayUsed drafts drafts' old new
used_with drafts drafts' old new draft added handed there range others before =
    subst (AreUsed new)
    (append_assoc others (blocks_of_all drafts) (draft_blocks draft) ∙ ap (λ (l : List ℕ). others ++ l) (sym (last_of drafts draft)) ∙ ap (λ (l : List Draft). others ++ blocks_of_all l) (sym added))
    (used_more old new (others ++ blocks_of_all drafts) (draft_blocks draft) before handed there range)

-- no drafts have a block that is free
pub nothing_used : (store : FileStore) (drafts : List Draft) → drafts ≡ [] → AreUsed store (blocks_of_all drafts)
nothing_used store drafts none =
    subst (λ (l : List Draft). AreUsed store (blocks_of_all l)) (sym none)
    (record { within = All-nil (λ b. b < block_count store); apart = apart_reverse store.free.items store.apart })
