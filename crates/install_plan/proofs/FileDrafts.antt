-- Files in drafts, and the contents that are made of them.
use Rattle.std.proofs.Common.{◌≡◌, ◌∙◌, ◌++◌, refl, sym, ap, subst, ℕ, List, [], ◌∷◌, length, map, All, Option, Some}
use Rattle.std.specs.Prelude.{IfSome, slice_get}
use Rattle.std.specs.List.{AllZip}
use Rattle.std.proofs.lemmas.List.Elements.{All-cons, All-nil}
use Rattle.small_types.specs.Blocks.{IsContent, blocks_start, count_for}
use Rattle.small_types.specs.declared.room.Room.{Room}
use Rattle.file_store.specs.Stores.{draft_blocks, draft_size}
use Rattle.file_store.specs.declared.draft.Draft.{Draft}
use Rattle.line_drafts.specs.Held.{AreContents, AreHeld}
use Rattle.manifests.specs.declared.facts.FileEntry.{FileEntry}
use Rattle.links.specs.Links.{LinksState}
use Rattle.store_state.specs.declared.view.Content.{Content}
use Rattle.store_state.specs.Contents.{IsMeasured}
use Rattle.store_state.specs.Stored.{HasContents, content_bytes}
use Rattle.install_plan.specs.declared.plan.WantedFile.{WantedFile}
use Rattle.install_plan.specs.Brought.{IsFileFrom}
use Rattle.install_plan.specs.Changes.{content_for, contents_for}
use Rattle.install_plan.specs.Drafted.{AreSized}
use Rattle.install_plan.specs.FetchedFiles.{IsFileAt}
use Rattle.install_plan.proofs.WantedPlaces.{at_places, rest_is, somes}
use Rattle.install_plan.proofs.Copies.{content_is}

-- each file has bytes of its size, and a draft of that size
abbrev pub AreDrafts : List FileEntry → List (List ℕ) → List Draft → Type 0
AreDrafts [] [] [] = Unit {0}
AreDrafts (entry ∷ entries) (bytes ∷ gave) (draft ∷ drafts) =
    (length bytes ≡ entry.size) × (draft_size draft ≡ length bytes) × AreDrafts entries gave drafts
AreDrafts entries gave drafts = ⊥

no_first : {X : Type 0} {P : Type 0} (x : X) (xs : List X) → x ∷ xs ≡ [] → P
no_first x xs e = absurd cc

head_some : (o : Option FileEntry) (entry : FileEntry) (os os' : List (Option FileEntry))
    → o ∷ os ≡ Some entry ∷ os' → o ≡ Some entry
head_some o entry os os' same = cc

-- so it is with what was fetched
pub are_drafts : (files : List FileEntry) (a c : LinksState) (wanted : List WantedFile)
    (entries : List FileEntry) (gave : List (List ℕ)) (drafts : List Draft)
    → at_places files wanted ≡ somes entries → AllZip (IsFileAt a c files) wanted gave
    → AreSized drafts gave → AreDrafts entries gave drafts
are_drafts files a c [] [] [] [] same all sized = tt
are_drafts files a c [] [] [] (draft ∷ drafts) same all sized = absurd sized
are_drafts files a c [] [] (bytes ∷ gave) drafts same all sized = absurd all
are_drafts files a c [] (entry ∷ entries) gave drafts same all sized =
    no_first (Some entry) (somes entries) (sym same)
are_drafts files a c (file ∷ wanted) [] gave drafts same all sized =
    no_first (slice_get files file.place) (at_places files wanted) same
are_drafts files a c (file ∷ wanted) (entry ∷ entries) [] drafts same all sized = absurd all
are_drafts files a c (file ∷ wanted) (entry ∷ entries) (bytes ∷ gave) [] same all sized =
    absurd sized
are_drafts files a c (file ∷ wanted) (entry ∷ entries) (bytes ∷ gave) (draft ∷ drafts) same all sized =
    let at = head_some (slice_get files file.place) entry (at_places files wanted) (somes entries)
    same in
    let from : IsFileFrom a c entry file.target bytes =
    subst (λ (o : Option FileEntry). IfSome o (λ e. IsFileFrom a c e file.target bytes)) at all.0 in (
      from.from.fits.sized,
      sized.0,
      are_drafts files a c wanted entries gave drafts
          (rest_is (slice_get files file.place) (Some entry) (at_places files wanted)
          (somes entries) same) all.1 sized.1,
    )

-- each content has as many blocks as its size needs
pub drafts_measured : (entries : List FileEntry) (gave : List (List ℕ)) (drafts rest : List Draft)
    → AreDrafts entries gave drafts
    → All IsMeasured (contents_for (somes entries) (drafts ++ rest))
drafts_measured [] [] [] rest are = All-nil IsMeasured
drafts_measured [] [] (draft ∷ drafts) rest are = absurd are
drafts_measured [] (bytes ∷ gave) drafts rest are = absurd are
drafts_measured (entry ∷ entries) [] drafts rest are = absurd are
drafts_measured (entry ∷ entries) (bytes ∷ gave) [] rest are = absurd are
drafts_measured (entry ∷ entries) (bytes ∷ gave) (draft ∷ drafts) rest are =
    All-cons IsMeasured (content_for entry draft) (contents_for (somes entries) (drafts ++ rest))
    (draft.counted ∙ ap count_for (are.1 ∙ are.0))
    (drafts_measured entries gave drafts rest are.2)

-- ---- in an image

-- what drafts hold stands in their blocks
pub held_stand : (base : ℕ) (drafts : List Draft) (gave : List (List ℕ)) (image : List ℕ)
    → AreHeld base drafts gave image → AreContents base (map draft_blocks drafts) gave image
held_stand base [] [] image held = tt
held_stand base [] (bytes ∷ gave) image held = absurd held
held_stand base (draft ∷ drafts) [] image held = absurd held
held_stand base (draft ∷ drafts) (bytes ∷ gave) image held =
    (held.0.content, held_stand base drafts gave image held.1)

module _ (room : Room) (image : List ℕ) where
  abbrev base : ℕ
  base = blocks_start room.half

  one_is : (entry : FileEntry) (bytes : List ℕ) (draft : Draft) → length bytes ≡ entry.size
      → IsContent base (draft_blocks draft) bytes image
      → content_bytes room image (content_for entry draft) ≡ bytes
  one_is entry bytes draft sized stands =
      content_is base entry.size (draft_blocks draft) bytes image sized stands

  -- the contents have the bytes
  pub drafts_bytes : (entries : List FileEntry) (gave : List (List ℕ)) (drafts rest : List Draft)
      → AreDrafts entries gave drafts → AreContents base (map draft_blocks drafts) gave image
      → map (content_bytes room image) (contents_for (somes entries) (drafts ++ rest)) ≡ gave
  drafts_bytes [] [] [] rest are stand = refl
  drafts_bytes [] [] (draft ∷ drafts) rest are stand = absurd are
  drafts_bytes [] (bytes ∷ gave) drafts rest are stand = absurd are
  drafts_bytes (entry ∷ entries) [] drafts rest are stand = absurd are
  drafts_bytes (entry ∷ entries) (bytes ∷ gave) [] rest are stand = absurd are
  drafts_bytes (entry ∷ entries) (bytes ∷ gave) (draft ∷ drafts) rest are stand =
      ap (λ (b : List ℕ). b
      ∷ map (content_bytes room image) (contents_for (somes entries) (drafts ++ rest)))
      (one_is entry bytes draft are.0 stand.0)
      ∙ ap (λ (bs : List (List ℕ)). bytes ∷ bs)
      (drafts_bytes entries gave drafts rest are.2 stand.1)

  -- of their sizes
  pub drafts_have : (entries : List FileEntry) (gave : List (List ℕ)) (drafts rest : List Draft)
      → AreDrafts entries gave drafts → AreContents base (map draft_blocks drafts) gave image
      → HasContents room image (contents_for (somes entries) (drafts ++ rest))
  drafts_have [] [] [] rest are stand =
      All-nil (λ (content : Content). length (content_bytes room image content) ≡ content.size)
  drafts_have [] [] (draft ∷ drafts) rest are stand = absurd are
  drafts_have [] (bytes ∷ gave) drafts rest are stand = absurd are
  drafts_have (entry ∷ entries) [] drafts rest are stand = absurd are
  drafts_have (entry ∷ entries) (bytes ∷ gave) [] rest are stand = absurd are
  drafts_have (entry ∷ entries) (bytes ∷ gave) (draft ∷ drafts) rest are stand =
      All-cons (λ (content : Content). length (content_bytes room image content) ≡ content.size)
      (content_for entry draft) (contents_for (somes entries) (drafts ++ rest))
      (ap length (one_is entry bytes draft are.0 stand.0) ∙ are.0)
      (drafts_have entries gave drafts rest are.2 stand.1)
