-- What links are, and what their calls do.
use Rattle.std.specs.Prelude.{◌≡◌, ◌≢◌, ◌<◌, ℕ, zero, suc, Bool, true, false, List, [], ◌∷◌, ◌++◌, length, set, Result, OnOk, OnErr}
use Rattle.outside.specs.Streams.{total}
use Rattle.small_types.specs.declared.target.Target.{Target}
use Rattle.links.specs.declared.links.WantFault.{WantFault}
use Rattle.links.specs.Link.{LinkState, Stays}

-- links: of each that there was at first, by its number, whether it is left, and the link itself;
-- and the targets that were asked for. A link that is gone keeps its number, and stays as it was
-- when it went.
pub record LinksState : Type 1 where
  pub there : List Bool
  pub link : ℕ → LinkState
  pub asked : List Target

-- ---- numbers and places

-- whether the link of a number is left
abbrev pub is_there : List Bool → ℕ → Bool
is_there [] n = false
is_there (is ∷ there) zero = is
is_there (is ∷ there) (suc n) = is_there there n

-- how many are left
abbrev pub count_there : List Bool → ℕ
count_there [] = 0
count_there (true ∷ there) = suc (count_there there)
count_there (false ∷ there) = count_there there

-- Those that are left have the places from 0 on, in the order of their numbers. This is the number
-- of the link at a place.
abbrev pub number_at : List Bool → ℕ → ℕ
number_at [] place = 0
number_at (true ∷ there) zero = 0
number_at (true ∷ there) (suc place) = suc (number_at there place)
number_at (false ∷ there) place = suc (number_at there place)

abbrev pub IsLeft : LinksState → ℕ → Type 0
IsLeft links n = is_there links.there n ≡ true

abbrev pub sources_of : LinksState → ℕ
sources_of links = count_there links.there

-- the link at a place
abbrev pub link_at : LinksState → ℕ → LinkState
link_at links place = links.link (number_at links.there place)

-- ---- failures

-- the sum of the counts of the first n links
abbrev pub counted : (ℕ → LinkState) → ℕ → ℕ
counted link zero = 0
counted link (suc n) = total (counted link n) (link n).count

-- the sum of the counts of all links, those that are gone included
abbrev pub failures_of : LinksState → ℕ
failures_of links = counted links.link (length links.there)

-- ---- calls

-- the target is the last one of the list
pub record IsLast (target : Target) (asked : List Target) : Type 0 where
  pub earlier : List Target
  pub is : asked ≡ earlier ++ target ∷ []

-- the same links are left, and so many
pub record Remain (old new : LinksState) : Type 0 where
  pub there : new.there ≡ old.there
  pub sources : sources_of new ≡ sources_of old

-- nothing changed but the link at the place
pub record ChangesOnly (place : ℕ) (old new : LinksState) : Type 0 where
  pub remain : Remain old new
  pub asked : new.asked ≡ old.asked
  pub others : (n : ℕ) → n < length old.there → n ≢ number_at old.there place
      → Stays (old.link n) (new.link n)

-- the target was added to those that were asked for, if there was memory, and nothing else changed
pub record Wants (target : Target) (old new : LinksState) (result : Result (Unit {0}) WantFault)
    : Type 0 where
  pub ok : OnOk result (new.asked ≡ old.asked ++ target ∷ [])
  pub err : OnErr result (new.asked ≡ old.asked)
  pub remain : Remain old new
  pub links : (n : ℕ) → n < length old.there → Stays (old.link n) (new.link n)

-- The link at the place is gone. Every link is as it was, that one too; of those that are left each
-- behind it stands one place before.
pub record Retires (place : ℕ) (old new : LinksState) : Type 0 where
  pub there : new.there ≡ set old.there (number_at old.there place) false
  pub asked : new.asked ≡ old.asked
  pub links : (n : ℕ) → n < length old.there → Stays (old.link n) (new.link n)
