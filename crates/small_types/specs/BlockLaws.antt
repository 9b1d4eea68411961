-- Which contents and which bytes stay where blocks are written, and what blocks hold.
use Rattle.std.specs.Prelude.{◌≡◌, ℕ, ◌*◌, ◌≤◌, min, List, length, take, drop}
use Rattle.small_types.specs.Blocks.{KeepsOutside, IsContent, ShareNone, Stands, bytes_in}
use Rattle.small_types.specs.declared.limits.TheConstants.{BLOCK_SIZE}

-- a content of which no block was written
abbrev pub ContentStays : Type 0
ContentStays = (base : ℕ) (blocks written content old new : List ℕ)
    → length content ≤ BLOCK_SIZE * length blocks → ShareNone blocks written
    → KeepsOutside base written old new
    → IsContent base blocks content old → IsContent base blocks content new

-- any content, where the bytes from a place before the blocks on are the same
abbrev pub ContentStaysBehind : Type 0
ContentStaysBehind = (base place : ℕ) (blocks content old new : List ℕ) → place ≤ base
    → length content ≤ BLOCK_SIZE * length blocks → drop place new ≡ drop place old
    → IsContent base blocks content old → IsContent base blocks content new

-- the bytes before the first block, while blocks are written
abbrev pub FrontStays : Type 0
FrontStays = (base : ℕ) (written old new : List ℕ) → KeepsOutside base written old new
    → take (min base (length old)) new ≡ take base old

-- two contents of one length in the same blocks are the same
abbrev pub OneContent : Type 0
OneContent = (base : ℕ) (blocks one other image : List ℕ) → length one ≡ length other
    → IsContent base blocks one image → IsContent base blocks other image → one ≡ other

-- what blocks give is a content where no byte of it is missing
abbrev pub BytesAreContent : Type 0
BytesAreContent = (base n : ℕ) (blocks image : List ℕ) → length (bytes_in base blocks n image) ≡ n
    → IsContent base blocks (bytes_in base blocks n image) image

-- each byte of a content stands at its place
abbrev pub ContentStands : Type 0
ContentStands = (base : ℕ) (blocks content image : List ℕ) → IsContent base blocks content image
    → Stands base blocks content image

-- and where each does, they are a content of these blocks
abbrev pub StandsIsContent : Type 0
StandsIsContent = (base : ℕ) (blocks content image : List ℕ)
    → length content ≤ BLOCK_SIZE * length blocks → Stands base blocks content image
    → IsContent base blocks content image
