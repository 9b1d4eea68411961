-- What the reader's own types stand for.
use Rattle.std.specs.Prelude.{◌≡◌, ℕ, Bool, ◌&&◌, not, ◌==◌, nat_le, List, [], ◌∷◌, map, reverse, drop, Option, Some, None, is_some, encode_utf8, if◌then◌else◌}
use Rattle.std.specs.Borrow.{Bor}
use Rattle.std.specs.BTreeMap.{BTreeMap, get_by}
use Rattle.std.specs.Cmp.Lexicographic.{slice_cmp}
use Rattle.std.specs.Ordering.{nat_cmp}
use Rattle.manifest_tree.specs.declared.node.Attribute.{Attribute}
use Rattle.manifest_tree.specs.declared.units.Piece.{Piece}
use Rattle.manifest_tree.specs.declared.units.Piece.TheVariants as pieces
use Rattle.manifest_tree.specs.declared.tag.Turn.{Turn}
use Rattle.manifest_tree.specs.declared.tag.Turn.TheVariants as turns
use Rattle.manifest_tree.specs.declared.tag.Tag.{Tag}
use Rattle.manifest_tree.specs.declared.open_element.OpenElement.{OpenElement}
use Rattle.manifest_tree.specs.declared.open_element.Stack.{Stack}
use Rattle.manifest_tree.specs.declared.open_element.Position.{Position}
use Rattle.manifest_tree.specs.declared.open_element.Position.TheVariants as positions
use Rattle.manifest_tree.specs.Lexis.{TagTurn, attribute, opens, closes, is_among}
use Rattle.manifest_tree.specs.Spots.{Spot, inside, behind, OpenTree, opened, names_of, placed}
use Rattle.manifest_tree.specs.Tree.{tree, none, trees, tree_of}

abbrev pub piece_of : Piece → List ℕ
piece_of (pieces.Byte b) = b ∷ []
piece_of (pieces.Character c) = encode_utf8 c

abbrev pub piece_and_rest : Piece × Bor (List ℕ) → List ℕ × List ℕ
piece_and_rest found = (piece_of found.0, found.1.now)

-- a byte that stands for itself in character data and in a value, and is not the one that ends the
-- run
unfoldable pub itself : ℕ → ℕ → Bool
itself until c = nat_le 32 c && not (c == 60) && not (c == 38) && not (c == until)

abbrev pub turn_in : Turn → TagTurn
turn_in (turns.Attribute name quote) = attribute name.now quote
turn_in turns.Opens = opens
turn_in turns.Closes = closes

abbrev pub turn_and_rest : Turn × Bor (List ℕ) → TagTurn × List ℕ
turn_and_rest found = (turn_in found.0, found.1.now)

-- an open element
abbrev pub open_tree : OpenElement → OpenTree
open_tree o = record {
  name = o.name;
  attributes = o.attributes.items;
  children =
      trees (map tree_of o.children.items);
  text = o.text.items;
}

-- those around the innermost, from it to the root
abbrev pub opens_of : List OpenElement → List OpenTree
opens_of os = reverse (map open_tree os)

abbrev pub below_of : Stack → List OpenTree
below_of s = opens_of s.below.items

abbrev pub around_of : Option Stack → List OpenTree
around_of None = []
around_of (Some s) = open_tree s.top ∷ below_of s

abbrev pub spot_of : Position → Spot
spot_of (positions.Inside s) = inside (open_tree s.top) (below_of s)
spot_of (positions.Behind node) = behind (tree_of node)

-- whether a map of names has this one
abbrev pub has_late : {X : Type 0} → BTreeMap (Bor (List ℕ)) X → List ℕ → Bool
has_late late name = is_some (get_by (λ k. slice_cmp nat_cmp name k.now) late)

-- the map has the names of the attributes behind the first eight
abbrev pub HasLate : {X : Type 0} → BTreeMap (Bor (List ℕ)) X → List Attribute → Type 0
HasLate late attributes = (name : List ℕ)
    → has_late late name ≡ is_among (names_of (drop 8 attributes)) name

-- where a start tag leads
abbrev pub tag_spot : Tag → List OpenTree → Spot
tag_spot tag around =
    if tag.closed then placed (tree tag.name tag.attributes.items none []) around else inside
    (opened tag.name tag.attributes.items) around
