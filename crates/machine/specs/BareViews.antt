-- Views without the bytes of their files, as a group, a data file and an install leave them.
use Rattle.std.specs.Prelude.{ℕ, ◌==◌, List, [], ◌∷◌, ◌++◌, filter, flat_map, map, if◌then◌else◌}
use Rattle.small_types.specs.declared.target.Target.{Target}
use Rattle.manifests.specs.declared.facts.Application.{Application}
use Rattle.manifests.specs.declared.facts.Deployment.{Deployment}
use Rattle.manifests.specs.declared.facts.FileEntry.{FileEntry}
use Rattle.machine.specs.Blocks.{deployed_data}
use Rattle.machine.specs.Current.{bare_data_of, bare_listed_by, current_bare}
use Rattle.machine.specs.DataFiles.{bare_name, with_named}
use Rattle.machine.specs.Migrated.{is_fresh, moved}
use Rattle.machine.specs.Shape.{BareData, BareView, Shape}

-- ---- one of the views is another

-- the views once that of the number is what f makes of it
abbrev pub with_bare_at : ℕ → (BareView → BareView) → List BareView → List BareView
with_bare_at number f views =
    map (λ view. if view.number == number then f view else view) views

-- a view with one more group
abbrev pub with_bare_group : List ℕ → BareView → BareView
with_bare_group group view = record view { groups = view.groups ++ group ∷ [] }

-- a view with that data file
abbrev pub with_bare_data : BareData → BareView → BareView
with_bare_data file view =
    record view { data_files = with_named bare_name file view.data_files }

-- ---- one more view

-- an old data file under the name that it has in the new version, where it is carried over
abbrev pub moved_data : List FileEntry → List FileEntry → BareData → List BareData
moved_data old_files new_files file =
    map (λ name. record { name = name; length = file.length }) (moved old_files new_files file.name)

-- the data files of a new version, in no order
abbrev pub migrated_data : List BareData → List FileEntry → List FileEntry → List BareData
migrated_data old old_files new_files =
    flat_map (moved_data old_files new_files) old
    ++ filter (λ file. is_fresh (map bare_name old) old_files new_files file.name)
    (map deployed_data (filter (λ entry. entry.local) new_files))

-- the view of a release, with its data files in no order
abbrev pub new_bare : Target → Deployment → Application → Shape → BareView
new_bare base d a shape =
    let old = current_bare d.identity.key shape in
    record {
      number = shape.next_view;
      deployment = d;
      application = a;
      base = base;
      groups = [];
      data_files = migrated_data (bare_data_of old) (bare_listed_by old) a.files;
    }
