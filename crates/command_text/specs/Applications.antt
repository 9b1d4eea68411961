-- What replies show of applications.
use Rattle.std.specs.Prelude.{ℕ, Bool, true, false, List, [], ◌∷◌, ◌++◌, length, codes, Option, Some, None}
use Rattle.std.specs.Fmt.{decimal}
use Rattle.std.specs.List.{flat_map, join_with_byte}
use Rattle.small_types.specs.declared.target.Target.{Target}
use Rattle.addresses.specs.Join.{target_text}
use Rattle.identity.specs.declared.version.Version.{Version}
use Rattle.identity.specs.Key.{key_text, word_text}
use Rattle.identity.specs.Version.{version_text}
use Rattle.machine.specs.declared.rows.ListRow.{ListRow}
use Rattle.machine.specs.declared.rows.ShowRow.{ShowRow}

-- a version, where there is one
abbrev pub optional_text : Option Version → List ℕ
optional_text None = codes "-"
optional_text (Some version) = version_text version

-- a number, where there is one
abbrev pub optional_number : Option ℕ → List ℕ
optional_number None = codes "-"
optional_number (Some number) = decimal number

-- a word-escaped text, where there is one
abbrev pub optional_word : Option (List ℕ) → List ℕ
optional_word None = codes "-"
optional_word (Some word) = word_text word

-- an address, where there is one
abbrev pub optional_target : Option Target → List ℕ
optional_target None = codes "-"
optional_target (Some target) = target_text target

-- whether it is so
abbrev pub truth_text : Bool → List ℕ
truth_text true = codes "yes"
truth_text false = codes "no"

-- an application and its current version, on a line of their own
abbrev pub row_text : ListRow → List ℕ
row_text row = key_text row.key ++ (codes " " ++ (optional_text row.current ++ codes "\n"))

abbrev pub rows_text : List ListRow → List ℕ
rows_text rows = flat_map row_text rows

-- how many there are, and then a line for each
abbrev pub list_text : List ListRow → List ℕ
list_text rows = codes "ok list " ++ (decimal (length rows) ++ (codes "\n" ++ rows_text rows))

-- what is known of an application, a word for each
abbrev pub row_words : ShowRow → List (List ℕ)
row_words row =
    key_text row.key
    ∷ optional_text row.current
    ∷ optional_text row.previous
    ∷ optional_text row.minimum
    ∷ optional_text row.offer
    ∷ optional_text row.skipped
    ∷ optional_text row.excluded
    ∷ optional_number row.last_check
    ∷ truth_text row.checked
    ∷ optional_word row.entry
    ∷ optional_target row.provider
    ∷ []

-- all of it in one line
abbrev pub show_text : ShowRow → List ℕ
show_text row = codes "ok show " ++ (join_with_byte 32 (row_words row) ++ codes "\n")

-- the versions of it, with a space behind each
abbrev pub versions_text : ShowRow → List ℕ
versions_text row =
    optional_text row.current ++ (codes " " ++ (optional_text row.previous
    ++ (codes " " ++ (optional_text row.minimum ++ (codes " " ++ (optional_text row.offer
    ++ (codes " " ++ (optional_text row.skipped ++ (codes " " ++ (optional_text row.excluded
    ++ codes " "))))))))))

-- its last check, whether it was checked since its last start, and the file that it starts, with a
-- space behind each
abbrev pub state_text : ShowRow → List ℕ
state_text row =
    optional_number row.last_check ++ (codes " " ++ (truth_text row.checked
    ++ (codes " " ++ (optional_word row.entry ++ codes " "))))
