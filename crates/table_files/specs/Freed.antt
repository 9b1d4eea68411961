-- What a change brings for files, and what it lets go.
use Rattle.std.specs.Prelude.{ℕ, List, [], ◌++◌, Option, Some, None, filter, map, not}
use Rattle.machine.specs.Blocks.{standing_files}
use Rattle.store_state.specs.declared.change.Change.{Change}
use Rattle.store_state.specs.declared.change.Change.TheVariants.{Boot, Require, Install, Heard, Unheard, Skip, Rollback, Launch, Finish, Group, Put, Remove, Clean}
use Rattle.store_state.specs.declared.view.Content.{Content}
use Rattle.store_state.specs.declared.view.LocalFile.{LocalFile}
use Rattle.store_state.specs.declared.view.View.{View}
use Rattle.store_state.specs.Dropped.{is_among, is_needed, removable_in, without_rows}
use Rattle.store_state.specs.Locals.{local_at}
use Rattle.store_state.specs.Tables.{Tables, bare_row}
use Rattle.table_files.specs.Held.{held_for_contents, held_for_locals, held_for_views}

-- ---- what comes

-- An install brings its contents and the data files of its view, a group its contents, and a put
-- its data file. Nothing else brings anything.
abbrev pub brought : Change → List ℕ
brought (Install view contents provider now) =
    held_for_contents contents ++ held_for_locals view.locals
brought (Group view group contents) = held_for_contents contents
brought (Put view file) = file.held
brought (Boot boot) = []
brought (Require key version) = []
brought (Heard key version minimum now) = []
brought (Unheard key) = []
brought (Skip app) = []
brought (Rollback app) = []
brought (Launch app) = []
brought (Finish lease) = []
brought (Remove view name) = []
brought Clean = []

-- ---- what goes

-- what is held for a data file, where there is one
abbrev pub held_for_one : Option LocalFile → List ℕ
held_for_one None = []
held_for_one (Some file) = file.held

-- those of the contents that no program file which stands in the views has
abbrev pub unneeded : List View → List Content → List Content
unneeded views contents =
    filter (λ content. not (is_needed (standing_files (map bare_row views)) content)) contents

-- the views of these numbers
abbrev pub rows_among : List ℕ → List View → List View
rows_among numbers views = filter (is_among numbers) views

-- What goes with the views of these numbers: what is held for the contents that no program file of
-- the other views has, and for the data files of these views.
abbrev pub freed_with : List ℕ → Tables → List ℕ
freed_with numbers tables =
    held_for_contents (unneeded (without_rows numbers tables.views) tables.contents)
    ++ held_for_views (rows_among numbers tables.views)

-- A put and a removal let go what the data file of that name in the view holds, where one stands
-- there, and a clean what goes with the views that it takes. Nothing else lets anything go.
abbrev pub freed : Change → Tables → List ℕ
freed (Put view file) tables = held_for_one (local_at view file.name tables)
freed (Remove view name) tables = held_for_one (local_at view name tables)
freed Clean tables = freed_with (removable_in tables) tables
freed (Boot boot) tables = []
freed (Require key version) tables = []
freed (Install view contents provider now) tables = []
freed (Heard key version minimum now) tables = []
freed (Unheard key) tables = []
freed (Skip app) tables = []
freed (Rollback app) tables = []
freed (Launch app) tables = []
freed (Finish lease) tables = []
freed (Group view group contents) tables = []

-- the changes that may let something go
abbrev pub LetsGo : Change → Type 0
LetsGo (Put view file) = Unit {0}
LetsGo (Remove view name) = Unit {0}
LetsGo Clean = Unit {0}
LetsGo (Boot boot) = ⊥
LetsGo (Require key version) = ⊥
LetsGo (Install view contents provider now) = ⊥
LetsGo (Heard key version minimum now) = ⊥
LetsGo (Unheard key) = ⊥
LetsGo (Skip app) = ⊥
LetsGo (Rollback app) = ⊥
LetsGo (Launch app) = ⊥
LetsGo (Finish lease) = ⊥
LetsGo (Group view group contents) = ⊥
