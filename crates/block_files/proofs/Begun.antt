-- Drafts that hold nothing yet.
use Rattle.std.proofs.Common.{◌≡◌, ℕ, List, [], length, ap, subst, arith}
use Rattle.std.proofs.lemmas.List.{nil_from_length}
use Rattle.small_types.specs.Blocks.{IsContent, bytes_in}
use Rattle.small_types.proofs.BlockContents.{bytes_in-le}
use Rattle.small_types.proofs.KeptBlocks.{bytes_content}
use Rattle.file_store.specs.Stores.{DraftHolds, draft_blocks, filled_of}
use Rattle.file_store.specs.declared.draft.Draft.{Draft}

-- no byte
pub content_none : (base : ℕ) (blocks image : List ℕ) → IsContent base blocks [] image
content_none base blocks image =
    let none : bytes_in base blocks 0 image ≡ [] = nil_from_length (bytes_in base blocks 0 image) (omega (arith, bytes_in-le base blocks 0 image)) in
    subst (λ (l : List ℕ). IsContent base blocks l image) none (bytes_content base 0 blocks image (ap length none))

pub holds_none : (base : ℕ) (draft : Draft) (image : List ℕ) → filled_of draft ≡ 0 → DraftHolds base draft [] image
holds_none base draft image empty = record { count = empty; content = content_none base (draft_blocks draft) image }
