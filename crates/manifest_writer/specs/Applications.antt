-- The text of an application manifest.
use Rattle.std.specs.Prelude.{ℕ, Bool, true, false, ◌==◌, List, [], ◌∷◌, ◌++◌, map, codes, decimal, Option, Some, None, if◌then◌else◌}
use Rattle.manifest_tree.specs.declared.node.Attribute.{Attribute}
use Rattle.manifest_tree.specs.Tree.{Tree}
use Rattle.manifest_tree.specs.WrittenText.{written}
use Rattle.manifests.specs.declared.facts.FileEntry.{FileEntry}
use Rattle.manifests.specs.declared.facts.Application.{Application}
use Rattle.manifest_writer.specs.Elements.{named, element, leaf, root_tree, own_identity_tree, hash_trees}

-- what is started
unfoldable pub entry_tree : Application → Tree
entry_tree a =
    element (codes "entryPoint") []
    (leaf (codes "commandLine")
    (named (codes "file") a.entry ∷ named (codes "parameters") a.parameters ∷ []) ∷ [])

-- ---- files

-- slashes are written as backslashes
unfoldable pub backslashed : List ℕ → List ℕ
backslashed name = map (λ b. if b == 47 then 92 else b) name

-- how a file is used: a data file, a file of a group, or one that is always fetched
abbrev pub use_attributes : Bool → Option (List ℕ) → List Attribute
use_attributes true group = named (codes "writeableType") (codes "applicationData") ∷ []
use_attributes false None = []
use_attributes false (Some group) = named (codes "optional") (codes "true")
    ∷ named (codes "group") group ∷ []

abbrev pub own_attributes : List ℕ → ℕ → List Attribute
own_attributes name size = named (codes "name") (backslashed name)
    ∷ named (codes "size") (decimal size) ∷ []

abbrev pub file_attributes : FileEntry → List Attribute
file_attributes e = own_attributes e.name e.size ++ use_attributes e.local e.group

unfoldable pub file_tree : FileEntry → Tree
file_tree e = element (codes "file") (file_attributes e) (hash_trees e.list)

-- ---- the whole

unfoldable pub application_tree : Application → Tree
application_tree a = root_tree (own_identity_tree a.identity ∷ entry_tree a ∷ map file_tree a.files)

abbrev pub application_text : Application → List ℕ
application_text a = written (application_tree a)
