-- The change of a group whose files came into drafts.
use Rattle.std.proofs.Common.{◌≡◌, ◌∙◌, ◌<◌, ◌≤◌, ◌⊎◌, ◌++◌, inl, inr, refl, sym, ap, subst, ℕ, List, [], ◌∷◌, length, All, Option, Some, None, get_or, arith}
use Rattle.std.specs.Prelude.{slice_get}
use Rattle.std.specs.List.Sorted.{IsPermutation}
use Rattle.std.proofs.lemmas.List.{append-nil}
use Rattle.std.proofs.lemmas.List.Elements.{All-head, All-tail}
use Rattle.std.proofs.lemmas.List.Sorted.{IsPermutation-refl}
use Rattle.std.proofs.lemmas.Option.{slice_get_cases}
use Rattle.file_store.specs.Stores.{blocks_of_all, draft_blocks}
use Rattle.file_store.specs.declared.draft.Draft.{Draft}
use Rattle.manifests.specs.declared.facts.FileEntry.{FileEntry}
use Rattle.store_state.specs.declared.view.Content.{Content}
use Rattle.table_files.specs.Held.{held_for_contents}
use Rattle.install_plan.specs.declared.plan.WantedFile.{WantedFile}
use Rattle.install_plan.specs.Changes.{contents_for, listed_at}

-- ---- blocks

-- a place of a file has one
pub listed_there : (files : List FileEntry) (place : ℕ) → place < length files
    → (entry : FileEntry) × (slice_get files place ≡ Some entry)
listed_there files place less = by (slice_get_cases files place).1
  where
    by : ((x : FileEntry) × (place < length files) × (slice_get files place ≡ Some x) × (get_or files place x ≡ x)) ⊎ ((length files ≤ place) × (slice_get files place ≡ None)) → (entry : FileEntry) × (slice_get files place ≡ Some entry)
    by (inl there) = (there.0, there.2)
    by (inr past) = absurd (omega (arith, less, past.0))

-- the contents have the blocks of the drafts
pub contents_blocks : (files : List FileEntry) (wanted : List WantedFile) (drafts : List Draft)
    → length drafts ≡ length wanted → All (λ file. file.place < length files) wanted
    → held_for_contents (contents_for (listed_at files wanted) drafts) ≡ blocks_of_all drafts
contents_blocks files [] [] same within = refl
contents_blocks files [] (draft ∷ drafts) same within = absurd (omega arith)
contents_blocks files (file ∷ wanted) [] same within = absurd (omega arith)
contents_blocks files (file ∷ wanted) (draft ∷ drafts) same within =
    let there = listed_there files file.place
    (All-head (λ (f : WantedFile). f.place < length files) file wanted within) in
    subst (λ (o : Option FileEntry).
    held_for_contents (contents_for (o ∷ listed_at files wanted) (draft ∷ drafts))
    ≡ draft_blocks draft ++ blocks_of_all drafts) (sym there.1)
    (ap (λ (l : List ℕ). draft_blocks draft ++ l)
    (contents_blocks files wanted drafts (omega arith)
    (All-tail (λ (f : WantedFile). f.place < length files) file wanted within)))

-- all of them are brought
pub all_brought : (files : List FileEntry) (wanted : List WantedFile) (drafts : List Draft)
    (contents : List Content) (taken unused : List ℕ) → length drafts ≡ length wanted
    → All (λ file. file.place < length files) wanted
    → contents ≡ contents_for (listed_at files wanted) drafts → taken ≡ blocks_of_all drafts
    → unused ≡ [] → IsPermutation taken (held_for_contents contents ++ unused)
all_brought files wanted drafts contents taken unused long within are all none =
    let same : held_for_contents contents ++ unused ≡ taken =
    ap (λ (l : List ℕ). held_for_contents contents ++ l) none
    ∙ append-nil (held_for_contents contents) ∙ ap held_for_contents are
    ∙ contents_blocks files wanted drafts long within ∙ sym all in
    subst (λ (l : List ℕ). IsPermutation taken l) (sym same) (IsPermutation-refl taken)
