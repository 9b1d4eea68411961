-- Where blocks stand in an image, which contents they hold, and what stays round them.
use Rattle.std.specs.Prelude.{◌≡◌, ◌≢◌, ℕ, ◌+◌, ◌-◌, ◌*◌, ◌/◌, ◌%◌, ◌<◌, ◌≤◌, min, slice_index, List, [], ◌∷◌, ◌++◌, length, take, drop, Contains, AllPairs}
use Rattle.small_types.specs.declared.limits.TheConstants.{BLOCK_SIZE, HEAD_BLOCK_SIZE}

-- where the block 0 begins, behind a head block and two halves of so many bytes
abbrev pub blocks_start : ℕ → ℕ
blocks_start half = HEAD_BLOCK_SIZE + 2 * half

-- where a block begins, if the block 0 begins at the base
abbrev pub place_of : ℕ → ℕ → ℕ
place_of base block = base + BLOCK_SIZE * block

-- how many blocks so many bytes need
abbrev pub count_for : ℕ → ℕ
count_for n = (n + (BLOCK_SIZE - 1)) / BLOCK_SIZE

-- The first n bytes in these blocks, one block after another. They are fewer where the image ends
-- before one of them.
unfoldable pub bytes_in : ℕ → List ℕ → ℕ → List ℕ → List ℕ
bytes_in base [] n image = []
bytes_in base (block ∷ blocks) n image =
    take (min BLOCK_SIZE n) (drop (place_of base block) image)
    ++ bytes_in base blocks (n - BLOCK_SIZE) image

-- the image has this content in these blocks
unfoldable pub IsContent : ℕ → List ℕ → List ℕ → List ℕ → Type 0
IsContent base blocks content image = bytes_in base blocks (length content) image ≡ content

-- no block stands twice
abbrev pub AreApart : List ℕ → Type 0
AreApart blocks = AllPairs (λ a b. a ≢ b) blocks

-- no block is in both
abbrev pub ShareNone : List ℕ → List ℕ → Type 0
ShareNone one other = (block : ℕ) → Contains one block → Contains other block → ⊥

-- a place lies in a block
abbrev pub InBlock : ℕ → ℕ → ℕ → Type 0
InBlock base place block =
    (place_of base block ≤ place) × (place < place_of base block + BLOCK_SIZE)

-- a place lies in none of these blocks
abbrev pub Outside : ℕ → List ℕ → ℕ → Type 0
Outside base blocks place = (block : ℕ) → Contains blocks block → InBlock base place block → ⊥

-- Each byte of the old image outside these blocks stands in the new one.
unfoldable pub KeepsOutside : ℕ → List ℕ → List ℕ → List ℕ → Type 0
KeepsOutside base blocks old new = (place : ℕ) → place < length old → Outside base blocks place
    → (place < length new) × (slice_index new place ≡ slice_index old place)

-- where a byte of a content stands that is in these blocks
unfoldable pub place_at : ℕ → List ℕ → ℕ → ℕ
place_at base blocks i = base + BLOCK_SIZE * slice_index blocks (i / BLOCK_SIZE) + i % BLOCK_SIZE

-- the image has these bytes in these blocks, each at its place
unfoldable pub Stands : ℕ → List ℕ → List ℕ → List ℕ → Type 0
Stands base blocks content image = (i : ℕ) → i < length content
    → (place_at base blocks i < length image)
    × (slice_index image (place_at base blocks i) ≡ slice_index content i)
