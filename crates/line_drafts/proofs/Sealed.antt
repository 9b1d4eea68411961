-- What drafts held stands in their blocks once they are sealed.
use Rattle.std.proofs.Common.{◌≡◌, ℕ, List, [], ◌∷◌, map, Contains, arith, refl, sym, subst}
use Rattle.std.proofs.lemmas.List.Elements.{Contains-append_left, Contains-append_right}
use Rattle.small_types.specs.Blocks.{IsContent}
use Rattle.file_store.specs.Stores.{DraftHolds, draft_blocks}
use Rattle.file_store.specs.declared.draft.Draft.{Draft}
use Rattle.line_drafts.specs.Held.{AreContents, AreHeld}

-- each content that one of the drafts held stands in the image
pub sealed_stand : (base : ℕ) (drafts : List Draft) (contents : List (List ℕ)) (seen image : List ℕ)
    → ((draft : Draft) (bytes : List ℕ) → Contains drafts draft → DraftHolds base draft bytes seen → IsContent base (draft_blocks draft) bytes image)
    → AreHeld base drafts contents seen → AreContents base (map draft_blocks drafts) contents image
sealed_stand base [] [] seen image each held = held
sealed_stand base [] (content ∷ contents) seen image each held = held
sealed_stand base (draft ∷ drafts) [] seen image each held = held
sealed_stand base (draft ∷ drafts) (content ∷ contents) seen image each held = (
  each draft content (Contains-append_left (draft ∷ []) drafts draft (0, omega arith, refl)) held.0,
  sealed_stand base drafts contents seen image (λ d bytes there holds. each d bytes (Contains-append_right (draft ∷ []) drafts d there) holds) held.1,
)

-- none, where there were no drafts
pub none_stand : (base : ℕ) (drafts : List Draft) (lists contents : List (List ℕ)) (seen image : List ℕ) → drafts ≡ [] → lists ≡ [] → AreHeld base drafts contents seen → AreContents base lists contents image
none_stand base drafts lists contents seen image none empty held =
    subst (λ (l : List (List ℕ)). AreContents base l contents image) (sym empty)
    (sealed_stand base [] contents seen image (λ draft bytes there holds. absurd (let low = there.1 in omega arith)) (subst (λ (l : List Draft). AreHeld base l contents seen) none held))
