-- Tables of data files by their names.
use Rattle.std.specs.Prelude.{◌≡◌, ℕ, Bool, List, Option, not}
use Rattle.std.specs.Borrow.{Bor}
use Rattle.std.specs.BTreeMap.{BTreeMap, get_by}
use Rattle.std.specs.BTreeSet.{BTreeSet, contains_by}
use Rattle.std.specs.Option.{option_copied}
use Rattle.identity.specs.Printed.{text_cmp}
use Rattle.manifests.specs.declared.facts.FileEntry.{FileEntry}
use Rattle.machine.specs.Migrated.{deployed, is_same}

abbrev pub Table : Type 0
Table = BTreeMap (Bor (List ℕ)) (Bor FileEntry)

-- the file under the name
abbrev pub entry_at : Table → List ℕ → Option FileEntry
entry_at table name = option_copied (get_by (λ key. text_cmp name key.now) table)

-- it has the data files that the release deploys
abbrev pub IsTable : Table → List FileEntry → Type 0
IsTable table files = (name : List ℕ) → entry_at table name ≡ deployed files name

-- an old data file of that name stays, by the tables of the old release and of the new one
abbrev pub stays_by : Table → Table → List ℕ → Bool
stays_by before after name = is_same (entry_at before name) (entry_at after name)

-- the set has the name
abbrev pub has_name : BTreeSet (Bor (List ℕ)) → List ℕ → Bool
has_name names name = contains_by (λ key. text_cmp name key.now) names

abbrev pub is_missing : BTreeSet (Bor (List ℕ)) → List ℕ → Bool
is_missing names name = not (has_name names name)
