-- Which assemblies are to be installed.
use Rattle.std.specs.Prelude.{Bool, true, false, List, ℕ, codes, Option, Some, None, Ok, Err, if◌then◌else◌}
use Rattle.std.specs.Str.{bytes_eq}
use Rattle.manifest_tree.specs.Tree.{Tree}
use Rattle.manifest_parts.specs.declared.fault.ManifestFault.TheVariants.{BadValue}
use Rattle.manifest_parts.specs.Elements.{Read, attribute}

-- one is where nothing is said; a prerequisite is not
abbrev pub is_installed : Option (List ℕ) → Read Bool
is_installed None = Ok true
is_installed (Some text) =
    if bytes_eq text (codes "install") then Ok true else
    if bytes_eq text (codes "preRequisite") then Ok false else Err
    (BadValue (codes "dependencyType"))

unfoldable pub installed_type : Tree → Read Bool
installed_type assembly = is_installed (attribute (codes "dependencyType") assembly)
