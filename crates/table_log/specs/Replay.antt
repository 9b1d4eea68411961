-- What texts do to tables, one after another.
use Rattle.std.specs.Prelude.{◌≡◌, ℕ, Bool, true, false, List, Result, Ok, Err}
use Rattle.store_state.specs.declared.change.Change.{Change}
use Rattle.store_state.specs.declared.state.StateFault.{StateFault}
use Rattle.store_state.specs.Change.{Fits, effect}
use Rattle.store_state.specs.Tables.{Tables}
use Rattle.table_log.specs.declared.fault.OpenFault.{OpenFault}
use Rattle.table_log.specs.declared.fault.OpenFault.TheVariants.{NotTables, DiskFault, Memory}
use Rattle.table_log.specs.Texts.{Encodes, LeadTo, Loads, Spells}

-- the text is the encoding of a change which fits the old tables and leads to the new ones
pub record Makes (text : List ℕ) (old new : Tables) : Type 0 where
  pub change : Change
  pub encodes : Encodes change text
  pub fits : Fits old change
  pub leads : new ≡ effect change old

-- the text is the encoding of no change which fits the tables
unfoldable pub FitsNone : List ℕ → Tables → Type 0
FitsNone text old = (change : Change) → Encodes change text → Fits old change → ⊥

-- whether the change fits: it was made, or nothing was done
abbrev pub Tests : Change → Tables → Tables → Bool → Type 0
Tests change old new true = Fits old change × (new ≡ effect change old)
Tests change old new false = Fits old change → ⊥

-- how a change that fits ends
abbrev pub IsMade : Result (Unit {0}) StateFault → Result Bool StateFault → Type 0
IsMade (Ok done) result = result ≡ Ok true
IsMade (Err fault) result = result ≡ Err fault

-- whether the text was made
abbrev pub Tries : List ℕ → Tables → Tables → Bool → Type 0
Tries text old new true = Makes text old new
Tries text old new false = FitsNone text old

-- the texts lead nowhere from these tables
unfoldable pub LoadsNone : Tables → List (List ℕ) → Type 0
LoadsNone old texts = (tables : Tables) → Loads old texts tables → ⊥

-- whether the texts were made
abbrev pub Replays : Tables → List (List ℕ) → Tables → Bool → Type 0
Replays old texts new true = Loads old texts new
Replays old texts new false = LoadsNone old texts

-- ---- a whole half

-- the text is the encoding of no tables
unfoldable pub SpellsNone : List ℕ → Type 0
SpellsNone text = (tables : Tables) → Spells tables text → ⊥

-- the tables that the text spells, or that it spells none
abbrev pub IsBase : List ℕ → Result Tables OpenFault → Type 0
IsBase text (Ok tables) = Spells tables text
IsBase text (Err NotTables) = SpellsNone text
IsBase text (Err Memory) = Unit {0}
IsBase text (Err DiskFault) = ⊥

-- its texts lead to no tables
unfoldable pub LeadNowhere : List ℕ → List (List ℕ) → Type 0
LeadNowhere text changes = (tables : Tables) → LeadTo text changes tables → ⊥

-- the tables to which they lead, or that there are none
abbrev pub Settled : List ℕ → List (List ℕ) → Result Tables OpenFault → Type 0
Settled text changes (Ok tables) = LeadTo text changes tables
Settled text changes (Err NotTables) = LeadNowhere text changes
Settled text changes (Err Memory) = Unit {0}
Settled text changes (Err DiskFault) = ⊥
