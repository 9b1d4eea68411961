-- What is the same outside a range of bytes.
use Rattle.std.specs.Prelude.{◌≡◌, ℕ, ◌+◌, min, List, length, take, drop}

-- outside the n bytes from a place on the new bytes are the old ones
pub record AgreesOutside (place n : ℕ) (old new : List ℕ) : Type 0 where
  pub before : take (min place (length old)) new ≡ take place old
  pub after : drop (place + n) new ≡ drop (place + n) old

-- outside that range the image is an old one
abbrev pub IsOldOutside : ℕ → ℕ → (List ℕ → Type 0) → List ℕ → Type 0
IsOldOutside place n old image = (before : List ℕ) × old before × AgreesOutside place n before image
