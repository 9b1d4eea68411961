-- The text that is written of a tree, and of which trees one can be.
use Rattle.std.specs.Prelude.{◌≡◌, ℕ, suc, ◌-◌, ◌^◌, ◌<◌, min, Bool, true, false, ◌&&◌, not, ◌==◌, nat_le, List, [], ◌∷◌, ◌++◌, Option, Some, None, if◌then◌else◌, unwrap_or, length, codes}
use Rattle.std.specs.List.{flat_map, list_all}
use Rattle.small_types.specs.declared.limits.TheConstants.{LEVEL_LIMIT, MANIFEST_LIMIT}
use Rattle.manifest_tree.specs.declared.node.Attribute.{Attribute}
use Rattle.manifest_tree.specs.declared.write.WriteFault.{WriteFault}
use Rattle.manifest_tree.specs.declared.write.WriteFault.TheVariants.{TooLong, Memory}
use Rattle.manifest_tree.specs.Lexis.{allowed, name_byte, has_name, is_among}
use Rattle.manifest_tree.specs.Tree.{Tree, Trees, tree, none, more}

-- ---- the text

-- the reference that a byte of a value or a text is written as, where it is not written as it is
unfoldable pub reference_for : ℕ → Option (List ℕ)
reference_for c =
    if c == 38 then Some (codes "&amp;") else
    if c == 60 then Some (codes "&lt;") else
    if c == 62 then Some (codes "&gt;") else
    if c == 34 then Some (codes "&quot;") else
    if c == 9 then Some (codes "&#9;") else
    if c == 10 then Some (codes "&#10;") else
    if c == 13 then Some (codes "&#13;") else None

abbrev pub escape : ℕ → List ℕ
escape c = unwrap_or (reference_for c) (c ∷ [])

abbrev pub escaped : List ℕ → List ℕ
escaped = flat_map escape

-- a space, the name, `="`, the value, `"`
abbrev pub attribute_text : Attribute → List ℕ
attribute_text a = 32 ∷ (a.name ++ (codes "=\"" ++ (escaped a.value ++ codes "\"")))

abbrev pub attributes_text : List Attribute → List ℕ
attributes_text = flat_map attribute_text

-- an element has neither children nor text
abbrev pub is_bare : Trees → List ℕ → Bool
is_bare none [] = true
is_bare none (c ∷ cs) = false
is_bare (more t ts) text = false

-- `<`, the name and the attributes
abbrev pub start_text : List ℕ → List Attribute → List ℕ
start_text name attributes = 60 ∷ (name ++ attributes_text attributes)

abbrev pub end_text : List ℕ → List ℕ
end_text name = codes "</" ++ (name ++ codes ">")

abbrev mutual
  -- an element that is bare ends in `/>`; else its text follows its start tag, then its children,
  -- then its end tag
  pub element_text : Tree → List ℕ
  element_text (tree name attributes children text) =
      start_text name attributes
      ++ (if is_bare children text then codes "/>" else ((62 ∷ escaped text)
      ++ (elements_text children ++ end_text name)))

  pub elements_text : Trees → List ℕ
  elements_text none = []
  elements_text (more t ts) = element_text t ++ elements_text ts

abbrev pub declaration : List ℕ
declaration = codes "<?xml version=\"1.0\" encoding=\"utf-8\"?>\n"

-- the declaration in a line of its own, and the element in the next
unfoldable pub written : Tree → List ℕ
written t = declaration ++ (element_text t ++ codes "\n")

-- ---- what can be written

abbrev pub is_name : List ℕ → Bool
is_name bytes = has_name bytes && list_all name_byte bytes

-- no byte below 32 but tab, line feed and carriage return
abbrev pub is_content : List ℕ → Bool
is_content = list_all allowed

-- a name and a value of the grammar, the name being none of these
abbrev pub is_attribute : List (List ℕ) → Attribute → Bool
is_attribute names a = is_name a.name && (is_content a.value && not (is_among names a.name))

-- attributes of the grammar, no name standing twice; those before have the given names
abbrev pub are_attributes : List (List ℕ) → List Attribute → Bool
are_attributes names [] = true
are_attributes names (a ∷ others) =
    is_attribute names a && are_attributes (names ++ a.name ∷ []) others

abbrev mutual
  -- an element at a level, the root's being 1, at most 64
  pub is_element : ℕ → Tree → Bool
  is_element level (tree name attributes children text) =
      nat_le level LEVEL_LIMIT &&
      (is_name name &&
      (are_attributes [] attributes && (is_content text && are_elements (suc level) children)))

  pub are_elements : ℕ → Trees → Bool
  are_elements level none = true
  are_elements level (more t ts) = is_element level t && are_elements level ts

-- Names, values and texts of the grammar, at most 64 levels, no element with two attributes of one
-- name.
abbrev pub is_writable : Tree → Bool
is_writable = is_element 1

-- ---- counts and faults

-- the number, or the greatest one of 64 bits where it is above that
abbrev pub counted : ℕ → ℕ
counted n = min n (2 ^ 64 - 1)

-- why this text is not written: it is longer than the limit, and so long; or memory ran out
abbrev pub IsUnwritten : List ℕ → WriteFault → Type 0
IsUnwritten text (TooLong count) = (MANIFEST_LIMIT < length text) × (count ≡ counted (length text))
IsUnwritten text Memory = Unit {0}
