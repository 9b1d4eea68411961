-- What a function of the reader answers, against what the definitions give. Memory may always run
-- out.
use Rattle.std.specs.Prelude.{◌≡◌, ℕ, List, ◌∷◌, Option, Result, Ok, Err, option_map}
use Rattle.std.specs.Borrow.{Bor}
use Rattle.std.specs.Str.{IsUtf8}
use Rattle.manifest_tree.specs.declared.fault.Stop.{Stop}
use Rattle.manifest_tree.specs.declared.fault.Stop.TheVariants as stops
use Rattle.manifest_tree.specs.Lexis.{Read}
use Rattle.manifest_tree.specs.Spots.{Spot, start, before, inside, in_tag, in_value, behind, Reads, Stops}

-- the same fault, or want of memory
abbrev pub Fails : {Y : Type 0} → Stop → Read Y → Type 0
Fails stops.Memory read = Unit {0}
Fails stops.NotText read = ⊥
Fails (stops.Fault kind left) read = read ≡ Err (kind, left)

abbrev pub Gives : {X Y : Type 0} → (X → Y) → Result X Stop → Read Y → Type 0
Gives view (Ok x) read = read ≡ Ok (view x)
Gives view (Err e) read = Fails e read

-- the same of what makes a text of bytes, which may be no UTF-8
abbrev pub FailsText : {Y : Type 0} → List ℕ → Stop → Read Y → Type 0
FailsText bytes stops.Memory read = Unit {0}
FailsText bytes stops.NotText read = IsUtf8 bytes → ⊥
FailsText bytes (stops.Fault kind left) read = read ≡ Err (kind, left)

abbrev pub GivesText : {X Y : Type 0} → List ℕ → (X → Y) → Result X Stop → Read Y → Type 0
GivesText bytes view (Ok x) read = read ≡ Ok (view x)
GivesText bytes view (Err e) read = FailsText bytes e read

-- what a slice holds
abbrev pub whole : Bor (List ℕ) → List ℕ
whole s = s.now

abbrev pub maybe : Option (Bor (List ℕ)) → Option (List ℕ)
maybe = option_map whole

-- a number or a character, and what follows it
abbrev pub found_at : ℕ × Bor (List ℕ) → ℕ × List ℕ
found_at found = (found.0, found.1.now)

-- What is taken as a text where reading stands is UTF-8: a tag's name, an attribute's name, a value
-- at its quote, and character data at a `<`.
abbrev pub TextsAt : Spot → List ℕ → Type 0
TextsAt start rest = Unit {0}
TextsAt before rest = Unit {0}
TextsAt (inside top around) rest = (tail : List ℕ) → rest ≡ 60 ∷ tail → IsUtf8 top.text
TextsAt (in_tag name attributes around) rest = IsUtf8 name
TextsAt (in_value name attributes of quote value around) rest =
    IsUtf8 of × ((tail : List ℕ) → rest ≡ quote ∷ tail → IsUtf8 value)
TextsAt (behind t) rest = Unit {0}

-- Steps lead to where that is not so.
pub record NoText (s : Spot) (bytes : List ℕ) : Type 0 where
  pub spot : Spot
  pub rest : List ℕ
  pub reads : Reads s bytes spot rest
  pub bad : TextsAt spot rest → ⊥

-- Steps lead from the spot and the bytes to the fault or to such a part, or memory ran out.
abbrev pub StopsBy : Spot → List ℕ → Stop → Type 0
StopsBy s bytes stops.Memory = Unit {0}
StopsBy s bytes stops.NotText = NoText s bytes
StopsBy s bytes (stops.Fault kind left) = Stops s bytes (kind, left)

-- Steps lead from the spot and the bytes to where the value stands, or to the fault.
abbrev pub Leads : {X : Type 0} → (X → Spot × List ℕ) → Spot → List ℕ → Result X Stop → Type 0
Leads to s bytes (Ok x) = Reads s bytes (to x).0 (to x).1
Leads to s bytes (Err e) = StopsBy s bytes e
