-- A field that is read just where it is spelled.
use Rattle.std.specs.Prelude.{◌≡◌, ◌<◌, ◌≤◌, ℕ, List, length, get_or, Ok}
use Rattle.record_fields.specs.Places.{Stands}
use Rattle.record_fields.specs.Parts.{Reader}

abbrev pub IsBytes : List ℕ → Type 0
IsBytes bytes = (i : ℕ) → get_or bytes i 0 < 256

-- what is read is spelled so and is a value, and a value that is spelled so is read
pub record ReadsField {X : Type 0} (Is : X → Type 0) (field : X → List ℕ) (at : Reader X)
    : Type 0 where
  pub takes : (bytes : List ℕ) (place : ℕ) (x : X × ℕ) → IsBytes bytes → place ≤ length bytes
      → at bytes place ≡ Ok x → Stands bytes place (field x.0) x.1 × Is x.0
  pub again : (bytes : List ℕ) (place : ℕ) (x : X) (next : ℕ) → Is x
      → Stands bytes place (field x) next → at bytes place ≡ Ok (x, next)
