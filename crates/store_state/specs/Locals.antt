-- Data files of views by their names.
use Rattle.std.specs.Prelude.{ℕ, Bool, false, List, bytes_eq, count_by, not, Option, Some, None, option_and_then}
use Rattle.std.specs.Ordering.{is_ge}
use Rattle.identity.specs.Printed.{text_cmp}
use Rattle.manifests.specs.Applications.{is_below_pre}
use Rattle.machine.specs.DataFiles.{named, with_named, without_named}
use Rattle.store_state.specs.declared.view.LocalFile.{LocalFile}
use Rattle.store_state.specs.declared.view.View.{View}
use Rattle.store_state.specs.Rows.{row_at}
use Rattle.store_state.specs.Tables.{Tables}

abbrev pub local_name : LocalFile → List ℕ
local_name file = file.name

-- the data file of the name, among files and in the view of a number
abbrev pub local_named : List ℕ → List LocalFile → Option LocalFile
local_named name files = named local_name name files

abbrev pub local_at : ℕ → List ℕ → Tables → Option LocalFile
local_at number name tables =
    option_and_then (λ view. local_named name view.locals) (row_at number tables.views)

-- whether its name is that name or behind it, and whether it is there and has that name
abbrev pub is_not_before : List ℕ → LocalFile → Bool
is_not_before name file = is_ge (text_cmp file.name name)

abbrev pub stands_at : List ℕ → Option LocalFile → Bool
stands_at name None = false
stands_at name (Some file) = bytes_eq file.name name

-- how many data files are outside `.pre`
abbrev pub outside_locals : List LocalFile → ℕ
outside_locals files = count_by (λ file. not (is_below_pre file.name)) files

-- the view with that data file, which takes the place of one of its name
abbrev pub with_local : LocalFile → View → View
with_local file view = record view { locals = with_named local_name file view.locals }

-- the view without the data file of that name
abbrev pub without_local : List ℕ → View → View
without_local name view = record view { locals = without_named local_name name view.locals }
