-- What the drafts of a line hold.
use Rattle.std.specs.Prelude.{◌≡◌, ℕ, ◌≤◌, List, [], length, All}
use Rattle.std.specs.List.{AllZip}
use Rattle.small_types.specs.Blocks.{IsContent}
use Rattle.file_store.specs.Stores.{DraftHolds, draft_size, filled_of}
use Rattle.file_store.specs.declared.draft.Draft.{Draft}

-- each draft was given all of its bytes
abbrev pub AreWhole : List Draft → Type 0
AreWhole drafts = All (λ draft. filled_of draft ≡ draft_size draft) drafts

-- each draft holds its content in this image, in their order
abbrev pub AreHeld : ℕ → List Draft → List (List ℕ) → List ℕ → Type 0
AreHeld base drafts contents image =
    AllZip (λ draft content. DraftHolds base draft content image) drafts contents

-- the image has each content in its list of blocks, in their order
abbrev pub AreContents : ℕ → List (List ℕ) → List (List ℕ) → List ℕ → Type 0
AreContents base lists contents image =
    AllZip (λ blocks content. IsContent base blocks content image) lists contents

-- the drafts are whole, and there is the room for a list of the blocks of each
pub record AreReady (drafts : List Draft) (lists : List (List ℕ)) (capacity : ℕ) : Type 0 where
  pub whole : AreWhole drafts
  pub none : lists ≡ []
  pub room : length drafts ≤ capacity
