-- What tables hold for the files that they name: the numbers of their blocks.
use Rattle.std.specs.Prelude.{ℕ, List, ◌++◌, flat_map}
use Rattle.store_state.specs.declared.view.Content.{Content}
use Rattle.store_state.specs.declared.view.LocalFile.{LocalFile}
use Rattle.store_state.specs.declared.view.View.{View}
use Rattle.store_state.specs.Tables.{Tables}

-- for contents, for data files, and for the data files of views, one after another
abbrev pub held_for_contents : List Content → List ℕ
held_for_contents contents = flat_map (λ content. content.held) contents

abbrev pub held_for_locals : List LocalFile → List ℕ
held_for_locals files = flat_map (λ file. file.held) files

abbrev pub held_for_views : List View → List ℕ
held_for_views views = flat_map (λ view. held_for_locals view.locals) views

-- for all contents, and then for the data files of all views
abbrev pub held_by : Tables → List ℕ
held_by tables = held_for_contents tables.contents ++ held_for_views tables.views
