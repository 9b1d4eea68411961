-- What holds of all encodings of tables, and of changes beside them.
use Rattle.std.specs.Prelude.{◌≡◌, ◌+◌, ◌-◌, ◌<◌, ◌≤◌, ◌^◌, length}
use Rattle.small_types.specs.declared.limits.TheConstants.{PIECE_LIMIT}
use Rattle.store_state.specs.declared.change.Change.{Change}
use Rattle.store_state.specs.declared.change.Change.TheVariants.{Put}
use Rattle.store_state.specs.Change.{Fits, effect}
use Rattle.store_state.specs.Kept.{AreTables}
use Rattle.store_state.specs.Measured.{AreMeasured, BringsMeasured}
use Rattle.store_state.specs.Tables.{Tables}
use Rattle.record_codec.specs.Codec.{change_text, IsChange}
use Rattle.table_codec.specs.declared.laws.TheConstants.{CHANGE_LIMIT}
use Rattle.table_codec.specs.Spelled.{state_text}
use Rattle.table_codec.specs.Values.{HaveFields, IsEncodableState}
use Rattle.table_weight.specs.Weight.{spelled_cost, tables_weight, weight_with}

-- different tables have different encodings
abbrev pub AreSpelledOnce : Type 0
AreSpelledOnce = (t u : Tables) → IsEncodableState t → IsEncodableState u
    → state_text t ≡ state_text u → t ≡ u

-- ---- which tables have one

-- tables that have one have their fields
abbrev pub HadFields : Type 0
HadFields = (t : Tables) → IsEncodableState t → HaveFields t

-- a change that fits, and has an encoding, leaves the fields of tables
abbrev pub FieldsStay : Type 0
FieldsStay = (t : Tables) (change : Change) → HaveFields t → Fits t change → IsChange change
    → HaveFields (effect change t)

-- tables that have their fields have an encoding, where they weigh less than four bytes can say
abbrev pub AreEncodable : Type 0
AreEncodable = (t : Tables) → AreTables t → HaveFields t → tables_weight t < 2 ^ 32
    → IsEncodableState t

-- so such a change leads from tables that have one to tables that have one
abbrev pub StayEncodable : Type 0
StayEncodable = (t : Tables) (change : Change) → AreTables t → IsEncodableState t → Fits t change
    → IsChange change → tables_weight (effect change t) < 2 ^ 32
    → IsEncodableState (effect change t)

-- ---- how long it is

-- An encoding is at most as long as its tables weigh, where a file counts the bytes that are
-- spelled of the numbers of its blocks, but for how many they are, in place of its blocks.
abbrev pub AreWithinWeights : Type 0
AreWithinWeights = (t : Tables) → IsEncodableState t
    → length (state_text t) ≤ weight_with spelled_cost t

-- Where each file has as many blocks as its length needs, they weigh no less: so the spelling of
-- tables that have their fields is at most as long as they weigh.
abbrev pub AreWithinTableWeights : Type 0
AreWithinTableWeights = (t : Tables) → AreTables t → HaveFields t → AreMeasured t
    → length (state_text t) ≤ tables_weight t

-- a data file that is put has at most the bytes that a line can bring
abbrev pub IsShortPut : Change → Type 0
IsShortPut (Put view file) = file.length ≤ PIECE_LIMIT
IsShortPut change = Unit {0}

-- The encoding of a change, of which each file has as many blocks as its length needs, is longer by
-- at most so much than the weight that it adds. A loss of weight counts as none.
abbrev pub ChangesAreWithinWeights : Type 0
ChangesAreWithinWeights = (t : Tables) (change : Change) → AreTables t → IsEncodableState t
    → Fits t change → IsChange change → BringsMeasured change → IsShortPut change
    → length (change_text change)
    ≤ CHANGE_LIMIT + (tables_weight (effect change t) - tables_weight t)
