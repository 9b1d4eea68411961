-- Reading a text from front to back, with the elements that are open.
use Rattle.std.specs.Prelude.{◌≡◌, ℕ, ◌-◌, true, false, ◌==◌, nat_lt, List, [], ◌∷◌, ◌++◌, length, map, Option, Some, None, Ok, Err, if◌then◌else◌}
use Rattle.small_types.specs.declared.limits.TheConstants.{LEVEL_LIMIT}
use Rattle.manifest_tree.specs.declared.fault.TreeKind.TheVariants.{Syntax, TooDeep}
use Rattle.manifest_tree.specs.declared.node.Attribute.{Attribute}
use Rattle.manifest_tree.specs.Lexis.{Fault, Read, white, name_byte, past, has_name, name_at, aside, begin, unit_at, TagTurn, attribute, opens, closes, tag_turn, end_at}
use Rattle.manifest_tree.specs.Tree.{Tree, Trees, tree, none, with_last}

-- an element whose end tag has not come, attributes far attributes it was read
pub record OpenTree : Type 0 where
  pub name : List ℕ
  pub attributes : List Attribute
  pub children : Trees
  pub text : List ℕ

abbrev pub finished : OpenTree → Tree
finished o = tree o.name o.attributes o.children o.text

abbrev pub with_child : OpenTree → Tree → OpenTree
with_child o t =
    record {
      name = o.name;
      attributes = o.attributes;
      children = with_last o.children t;
      text =
          o.text;
    }

abbrev pub with_text : OpenTree → List ℕ → OpenTree
with_text o piece =
    record {
      name = o.name;
      attributes = o.attributes;
      children = o.children;
      text = o.text
          ++ piece;
    }

abbrev pub opened : List ℕ → List Attribute → OpenTree
opened name attributes = record { name = name; attributes = attributes; children = none; text = [] }

abbrev pub names_of : List Attribute → List (List ℕ)
names_of = map (λ (a : Attribute). a.name)

-- where reading stands; the open elements go from the innermost to the root
pub data Spot : Type 0 where
  start : Spot
  before : Spot
  inside : (top : OpenTree) (around : List OpenTree) → Spot
  in_tag : (name : List ℕ) (attributes : List Attribute) (around : List OpenTree) → Spot
  in_value : (name : List ℕ) (attributes : List Attribute) (of : List ℕ) (quote : ℕ)
      (value : List ℕ) (around : List OpenTree) → Spot
  behind : Tree → Spot

-- what the next step does
pub data Next : Type 0 where
  go : Spot → List ℕ → Next
  stop : Fault → Next
  done : Tree → Next

abbrev pub onward : {A : Type 0} → Read A → (A → Next) → Next
onward (Ok x) f = f x
onward (Err fault) f = stop fault

-- behind an element that stood in these
abbrev pub placed : Tree → List OpenTree → Spot
placed t [] = behind t
placed t (o ∷ around) = inside (with_child o t) around

abbrev pub root_step : List ℕ → Option (List ℕ) → Next
root_step bytes (Some rest) = go before rest
root_step bytes None =
    if has_name bytes then go (in_tag (name_at bytes) [] []) (past name_byte bytes) else stop
    (Syntax, length bytes)

unfoldable pub before_step : List ℕ → Next
before_step [] = stop (Syntax, 0)
before_step (c ∷ cs) =
    if white c then go before cs else
    if c == 60 then onward (aside cs) (root_step cs) else stop (Syntax, length (c ∷ cs))

abbrev pub markup_step : OpenTree → List OpenTree → List ℕ → Next
markup_step o around [] = stop (Syntax, 0)
markup_step o around (c ∷ cs) =
    if c == 47 then onward (end_at o.name (length (60 ∷ c ∷ cs)) cs)
    (λ rest. go (placed (finished o) around) rest) else
    if has_name (c ∷ cs) then
    (if nat_lt (length around) (LEVEL_LIMIT - 1) then go (in_tag (name_at (c ∷ cs)) [] (o
    ∷ around)) (past name_byte (c ∷ cs)) else stop (TooDeep, length (60 ∷ c ∷ cs)))
    else stop (Syntax, length (c ∷ cs))

abbrev pub apart_step : OpenTree → List OpenTree → List ℕ → Option (List ℕ) → Next
apart_step o around bytes (Some rest) = go (inside o around) rest
apart_step o around bytes None = markup_step o around bytes

unfoldable pub inside_step : OpenTree → List OpenTree → List ℕ → Next
inside_step o around [] = stop (Syntax, 0)
inside_step o around (c ∷ cs) =
    if c == 60 then onward (aside cs) (apart_step o around cs) else
    onward (unit_at false (c ∷ cs)) (λ found. go (inside (with_text o found.0) around) found.1)

abbrev pub turned : List ℕ → List Attribute → List OpenTree → TagTurn × List ℕ → Next
turned name attributes around (attribute a quote, rest) =
    go (in_value name attributes a quote [] around) rest
turned name attributes around (opens, rest) = go (inside (opened name attributes) around) rest
turned name attributes around (closes, rest) =
    go (placed (tree name attributes none []) around) rest

unfoldable pub tag_step : List ℕ → List Attribute → List OpenTree → List ℕ → Next
tag_step name attributes around bytes =
    onward (tag_turn (names_of attributes) bytes) (turned name attributes around)

unfoldable pub value_step : List ℕ → List Attribute → List ℕ → ℕ → List ℕ → List OpenTree → List ℕ
    → Next
value_step name attributes a quote value around [] = stop (Syntax, 0)
value_step name attributes a quote value around (c ∷ cs) =
    if c == quote then go
    (in_tag name (attributes ++ record { name = a; value = value } ∷ []) around) cs else
    onward (unit_at true (c ∷ cs))
    (λ found. go (in_value name attributes a quote (value ++ found.0) around) found.1)

abbrev pub behind_apart : Tree → List ℕ → Option (List ℕ) → Next
behind_apart t bytes (Some rest) = go (behind t) rest
behind_apart t bytes None = stop (Syntax, length bytes)

unfoldable pub behind_step : Tree → List ℕ → Next
behind_step t [] = done t
behind_step t (c ∷ cs) =
    if white c then go (behind t) cs else
    if c == 60 then onward (aside cs) (behind_apart t cs) else stop (Syntax, length (c ∷ cs))

abbrev pub next : Spot → List ℕ → Next
next start bytes = onward (begin bytes) (λ rest. go before rest)
next before bytes = before_step bytes
next (inside o around) bytes = inside_step o around bytes
next (in_tag name attributes around) bytes = tag_step name attributes around bytes
next (in_value name attributes a quote value around) bytes =
    value_step name attributes a quote value around bytes
next (behind t) bytes = behind_step t bytes

-- from a spot and bytes, some steps lead to another spot and what is left of the bytes
pub data Reads : Spot → List ℕ → Spot → List ℕ → Type 0 where
  here : {s : Spot} {bytes : List ℕ} → Reads s bytes s bytes
  step : {s t u : Spot} {bytes after rest : List ℕ} → next s bytes ≡ go t after
      → Reads t after u rest → Reads s bytes u rest

-- some steps lead to a fault
pub record Stops (s : Spot) (bytes : List ℕ) (fault : Fault) : Type 0 where
  pub spot : Spot
  pub rest : List ℕ
  pub reads : Reads s bytes spot rest
  pub stopped : next spot rest ≡ stop fault
