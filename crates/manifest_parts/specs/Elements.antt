-- Elements and attributes are found by their local names.
use Rattle.std.specs.Prelude.{◌≡◌, ℕ, Bool, true, false, ◌&&◌, ◌||◌, not, ◌==◌, nat_eq, List, [], ◌∷◌, filter, codes, Option, Some, None, option_map, Result, Ok, Err, if◌then◌else◌}
use Rattle.std.specs.List.{find, list_any, starts_with}
use Rattle.std.specs.Str.{bytes_eq}
use Rattle.manifest_tree.specs.declared.node.Attribute.{Attribute}
use Rattle.manifest_tree.specs.Tree.{Tree, Trees, tree, none, more}
use Rattle.manifest_parts.specs.declared.fault.ManifestFault.{ManifestFault}
use Rattle.manifest_parts.specs.declared.fault.ManifestFault.TheVariants.{Missing, Twice}

-- what is read, or why the manifest is refused
abbrev pub Read : Type 0 → Type 0
Read A = Result A ManifestFault

-- ---- names

-- what follows the last `:`, where so much is kept so far
abbrev pub local_from : List ℕ → List ℕ → List ℕ
local_from kept [] = kept
local_from kept (c ∷ cs) = if c == 58 then local_from cs cs else local_from kept cs

-- what follows the last `:` of a name, or all of it
unfoldable pub local : List ℕ → List ℕ
local name = local_from name name

-- `xmlns` and names that begin with `xmlns:` declare namespaces
unfoldable pub declares : List ℕ → Bool
declares name = bytes_eq name (codes "xmlns") || starts_with nat_eq name (codes "xmlns:")

-- ---- attributes

-- an attribute with the local name; one that declares a namespace is never found
abbrev pub is_attribute : List ℕ → Attribute → Bool
is_attribute wanted a = not (declares a.name) && bytes_eq (local a.name) wanted

-- the value of the first such attribute
unfoldable pub value_of : List ℕ → List Attribute → Option (List ℕ)
value_of wanted attributes =
    option_map (λ (a : Attribute). a.value) (find (is_attribute wanted) attributes)

-- ---- elements

-- elements in order

abbrev pub listed : Trees → List Tree
listed none = []
listed (more t ts) = t ∷ listed ts

abbrev pub name_of : Tree → List ℕ
name_of (tree name attributes children text) = name

abbrev pub attributes_of : Tree → List Attribute
attributes_of (tree name attributes children text) = attributes

abbrev pub children_of : Tree → List Tree
children_of (tree name attributes children text) = listed children

abbrev pub text_of : Tree → List ℕ
text_of (tree name attributes children text) = text

-- the value of an element's first attribute with the local name
abbrev pub attribute : List ℕ → Tree → Option (List ℕ)
attribute wanted t = value_of wanted (attributes_of t)

-- the element has the local name
unfoldable pub called : List ℕ → Tree → Bool
called wanted t = bytes_eq (local (name_of t)) wanted

-- the child elements with the local name, in order
unfoldable pub children_called : List ℕ → Tree → List Tree
children_called wanted t = filter (called wanted) (children_of t)

-- the first of them
unfoldable pub first_called : List ℕ → Tree → Option Tree
first_called wanted t = find (called wanted) (children_of t)

-- the one element of a list
abbrev pub one_of : List ℕ → List Tree → Read Tree
one_of what [] = Err (Missing what)
one_of what (t ∷ []) = Ok t
one_of what (t ∷ u ∷ ts) = Err (Twice what)

-- the one child element with the local name
unfoldable pub once : List ℕ → Tree → Read Tree
once what t = one_of what (children_called what t)

-- an element with the local name stands in the tree, which may be the root itself
abbrev mutual
  pub has_called : List ℕ → Tree → Bool
  has_called wanted (tree name attributes children text) =
      bytes_eq (local name) wanted || any_called wanted children

  pub any_called : List ℕ → Trees → Bool
  any_called wanted none = false
  any_called wanted (more t ts) = has_called wanted t || any_called wanted ts
