-- What stands on the site of a folder, which is what a host of its files serves.
use Rattle.std.specs.Prelude.{ℕ, List, Option, Some, None}
use Rattle.folders.specs.declared.folder.Held.{Held}
use Rattle.folders.specs.Files.{file_in}
use Rattle.http_plain.specs.Path.{name_in_path}
use Rattle.small_types.specs.declared.target.Target.{Target}

-- the file of that name; without a name there is none
abbrev pub file_named : List Held → Option (List ℕ) → Option (List ℕ)
file_named files None = None
file_named files (Some name) = file_in name files

-- the file that the path names; the host and the port are not looked at
abbrev pub served : List Held → Target → Option (List ℕ)
served files target = file_named files (name_in_path target.path)
