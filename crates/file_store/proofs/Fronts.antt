-- First parts of contents.
use Rattle.std.proofs.Common.{◌≡◌, ℕ, ◌*◌, ◌≤◌, List, ◌++◌, length, ◌∙◌, arith}
use Rattle.std.proofs.lemmas.List.{length-append, get_or_append_left}
use Rattle.small_types.specs.Blocks.{IsContent, Stands, bytes_in}
use Rattle.small_types.proofs.BlockContents.{content_from_stands, stands_from_content}

pub stands_front : (base : ℕ) (blocks front back image : List ℕ) → Stands base blocks (front ++ back) image → Stands base blocks front image
unfolding Stands
stands_front base blocks front back image stands i low =
    let there = stands i (omega (arith, length-append front back)) in
    (there.0, there.1 ∙ get_or_append_left front back 0 i low)

pub content_front : (base : ℕ) (blocks front back image : List ℕ) → length front ≤ 4096 * length blocks → IsContent base blocks (front ++ back) image → IsContent base blocks front image
content_front base blocks front back image fits is = content_from_stands base blocks front image fits (stands_front base blocks front back image (stands_from_content base blocks (front ++ back) image is))

-- a content is what its blocks give
pub content_bytes : (base : ℕ) (blocks content image : List ℕ) → IsContent base blocks content image → bytes_in base blocks (length content) image ≡ content
unfolding IsContent
content_bytes base blocks content image is = is
