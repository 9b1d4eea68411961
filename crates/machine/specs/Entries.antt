-- What is known of applications: entries in order of their printed keys.
use Rattle.std.specs.Prelude.{◌≡◌, false, List, [], ◌∷◌, Option, Some, None, unwrap_or}
use Rattle.std.specs.declared.cmp.Ordering.{Ordering}
use Rattle.std.specs.declared.cmp.Ordering.TheVariants.{Less, Equal, Greater}
use Rattle.identity.specs.declared.key.Key.{Key}
use Rattle.identity.specs.Key.{key_text}
use Rattle.identity.specs.Printed.{text_cmp}
use Rattle.machine.specs.declared.app.AppState.{AppState}

-- keys are ordered by their printed bytes
abbrev pub key_cmp : Key → Key → Ordering
key_cmp a b = text_cmp (key_text a) (key_text b)

-- the key is below those of all these applications
abbrev pub IsBelowAll : Key → List AppState → Type 0
IsBelowAll key [] = Unit {0}
IsBelowAll key (app ∷ apps) = (key_cmp key app.key ≡ Less) × IsBelowAll key apps

abbrev pub AreInOrder : List AppState → Type 0
AreInOrder [] = Unit {0}
AreInOrder (app ∷ apps) = IsBelowAll app.key apps × AreInOrder apps

-- ---- reading an entry

-- by how the key of the first application compares with a key
abbrev pub entry_at : Ordering → AppState → Option AppState → Option AppState
entry_at Less app rest = rest
entry_at Equal app rest = Some app
entry_at Greater app rest = None

-- the entry of the key
abbrev pub entry_of : Key → List AppState → Option AppState
entry_of key [] = None
entry_of key (app ∷ apps) = entry_at (key_cmp app.key key) app (entry_of key apps)

-- an entry of which nothing is known yet
abbrev pub fresh : Key → AppState
fresh key = record {
  key = key;
  provider = None;
  current = None;
  previous = None;
  minimum = None;
  offer = None;
  skipped = None;
  excluded = None;
  last_check = None;
  checked = false;
}

-- the entry of the key, or a fresh one
abbrev pub entry_or_fresh : Key → List AppState → AppState
entry_or_fresh key apps = unwrap_or (entry_of key apps) (fresh key)

-- ---- changing an entry

-- f leaves the key of an entry
abbrev pub KeepsKeys : (AppState → AppState) → Type 0
KeepsKeys f = (app : AppState) → (f app).key ≡ app.key

abbrev pub with_entry_at :
    Ordering → Key → (AppState → AppState) → AppState → List AppState → List AppState
    → List AppState
with_entry_at Less key f app apps rest = app ∷ rest
with_entry_at Equal key f app apps rest = f app ∷ apps
with_entry_at Greater key f app apps rest = f (fresh key) ∷ app ∷ apps

-- The entries once that of the key is what f makes of it. A key without an entry has a fresh one
-- first, in its place.
abbrev pub with_entry : Key → (AppState → AppState) → List AppState → List AppState
with_entry key f [] = f (fresh key) ∷ []
with_entry key f (app ∷ apps) =
    with_entry_at (key_cmp app.key key) key f app apps (with_entry key f apps)
