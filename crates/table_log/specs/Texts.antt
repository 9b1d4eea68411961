-- What the texts of a journal lead to.
use Rattle.std.specs.Prelude.{◌≡◌, ℕ, List, [], ◌∷◌}
use Rattle.record_codec.specs.Codec.{change_text, IsChange}
use Rattle.store_state.specs.declared.change.Change.{Change}
use Rattle.store_state.specs.Change.{Fits, effect}
use Rattle.store_state.specs.Kept.{AreTables}
use Rattle.store_state.specs.Tables.{Tables}
use Rattle.table_codec.specs.Spelled.{state_text}
use Rattle.table_codec.specs.Values.{IsEncodableState}

-- the text is the encoding of the change, which has one
pub record Encodes (change : Change) (text : List ℕ) : Type 0 where
  pub has : IsChange change
  pub is : text ≡ change_text change

-- each of these texts is the encoding of a change which fits, and one after another they lead from
-- old to new
abbrev pub Loads : Tables → List (List ℕ) → Tables → Type 0
Loads old [] new = new ≡ old
Loads old (text ∷ texts) new =
    (change : Change) × Encodes change text × Fits old change
    × Loads (effect change old) texts new

-- the text is the encoding of the tables, which have one
pub record Spells (tables : Tables) (text : List ℕ) : Type 0 where
  pub has : IsEncodableState tables
  pub are : AreTables tables
  pub is : text ≡ state_text tables

-- the text spells tables from which the changes with these texts lead to others
pub record LeadTo (text : List ℕ) (changes : List (List ℕ)) (tables : Tables) : Type 0 where
  pub base : Tables
  pub spells : Spells base text
  pub loads : Loads base changes tables
