-- What a text spells. In each relation the first list of bytes begins with the part, and the last
-- is what stands behind it.
use Rattle.std.specs.Prelude.{◌≡◌, ℕ, suc, ◌≤◌, true, false, ◌==◌, List, [], ◌∷◌, ◌++◌, length, Some, Ok}
use Rattle.std.specs.Str.{IsUtf8}
use Rattle.small_types.specs.declared.limits.TheConstants.{LEVEL_LIMIT, MANIFEST_LIMIT}
use Rattle.manifest_tree.specs.declared.node.Attribute.{Attribute}
use Rattle.manifest_tree.specs.declared.node.Node.{Node}
use Rattle.manifest_tree.specs.Lexis.{white, name_byte, past, has_name, name_at, aside, begin, unit_at, quote_at, is_among}
use Rattle.manifest_tree.specs.Tree.{Tree, Trees, tree, none, more, tree_of}

-- white space, comments and instructions, any number of them
pub data Misc : List ℕ → List ℕ → Type 0 where
  nothing : {rest : List ℕ} → Misc rest rest
  space : {c : ℕ} {bytes rest : List ℕ} → white c ≡ true → Misc bytes rest → Misc (c ∷ bytes) rest
  note : {bytes after rest : List ℕ} → aside bytes ≡ Ok (Some after) → Misc after rest
      → Misc (60 ∷ bytes) rest

-- units of a value, none of which begins with its quote, and what they stand for together
pub data Units (quote : ℕ) : List ℕ → List ℕ → List ℕ → Type 0 where
  no_unit : {rest : List ℕ} → Units quote rest [] rest
  one_unit : {c : ℕ} {bytes after piece value whole rest : List ℕ} → (c == quote) ≡ false
      → unit_at true (c ∷ bytes) ≡ Ok (piece, after)
      → Units quote after value rest → whole ≡ piece ++ value → Units quote (c ∷ bytes) whole rest

-- an attribute: white space, its name, `=` and a quote with white space before each or none, its
-- value, and the same quote
pub record IsAttribute (bytes : List ℕ) (a : Attribute) (rest : List ℕ) : Type 0 where
  pub spaced : (length (past white bytes) == length bytes) ≡ false
  pub named : has_name (past white bytes) ≡ true
  pub name : a.name ≡ name_at (past white bytes)
  pub quote : ℕ
  pub inside : List ℕ
  pub opened : quote_at (past name_byte (past white bytes)) ≡ Ok (quote, inside)
  pub value : Units quote inside a.value (quote ∷ rest)

-- the attributes of a tag in order, none having a name that one before it has; those before have
-- the given names
pub data Attributes : List (List ℕ) → List ℕ → List Attribute → List ℕ → Type 0 where
  no_attribute : {names : List (List ℕ)} {rest : List ℕ} → Attributes names rest [] rest
  one_attribute : {names : List (List ℕ)} {bytes after rest : List ℕ} {a : Attribute} {others : List
      Attribute}
      → IsAttribute bytes a after → is_among names a.name ≡ false
      → Attributes (names ++ a.name ∷ []) after others rest
      → Attributes names bytes (a ∷ others) rest

-- a start tag behind its `<`, up to the white space before its end: its name and its attributes
pub record IsStart (bytes : List ℕ) (name : List ℕ) (attributes : List Attribute) (rest : List ℕ)
    : Type 0 where
  pub named : has_name bytes ≡ true
  pub name_is : name ≡ name_at bytes
  pub attributes_are : Attributes [] (past name_byte bytes) attributes rest

-- the end tag of an element of this name, behind its `</`
pub record IsEnd (bytes : List ℕ) (name : List ℕ) (rest : List ℕ) : Type 0 where
  pub named : has_name bytes ≡ true
  pub name_is : name_at bytes ≡ name
  pub ended : past white (past name_byte bytes) ≡ 62 ∷ rest

mutual
  -- an element at a level, the root's being 1: a tag that ends in `/>`, or a start tag, content and
  -- the end tag of the same name
  pub data Element : ℕ → List ℕ → Tree → List ℕ → Type 0 where
    empty : {level : ℕ} {bytes name after rest : List ℕ} {attributes : List Attribute}
        → level ≤ LEVEL_LIMIT → IsStart bytes name attributes after
        → past white after ≡ 47 ∷ 62 ∷ rest
        → Element level (60 ∷ bytes) (tree name attributes none []) rest
    full : {level : ℕ} {bytes name after inside text end rest : List ℕ} {attributes : List
        Attribute} {children : Trees}
        → level ≤ LEVEL_LIMIT → IsStart bytes name attributes after → past white after ≡ 62 ∷ inside
        → Content (suc level) inside children text (60 ∷ 47 ∷ end) → IsEnd end name rest
        → Element level (60 ∷ bytes) (tree name attributes children text) rest

  -- what an element whose children are at the level holds: character data, comments and
  -- instructions, and child elements
  pub data Content : ℕ → List ℕ → Trees → List ℕ → List ℕ → Type 0 where
    no_content : {level : ℕ} {rest : List ℕ} → Content level rest none [] rest
    data_unit : {level : ℕ} {bytes after piece text whole rest : List ℕ} {children : Trees}
        → unit_at false bytes ≡ Ok (piece, after) → Content level after children text rest
        → whole ≡ piece ++ text
        → Content level bytes children whole rest
    note_inside : {level : ℕ} {bytes after text rest : List ℕ} {children : Trees}
        → aside bytes ≡ Ok (Some after) → Content level after children text rest
        → Content level (60 ∷ bytes) children text rest
    child : {level : ℕ} {bytes after text rest : List ℕ} {t : Tree} {children : Trees}
        → Element level bytes t after → Content level after children text rest
        → Content level bytes (more t children) text rest

-- What the bytes spell: at most 4,194,304 bytes of UTF-8, that are a byte order mark and a
-- declaration or none, then white space, comments and instructions, one element, and again white
-- space, comments and instructions.
pub record SpellsTree (bytes : List ℕ) (t : Tree) : Type 0 where
  pub short : length bytes ≤ MANIFEST_LIMIT
  pub utf8 : IsUtf8 bytes
  pub start : List ℕ
  pub begun : begin bytes ≡ Ok start
  pub root : List ℕ
  pub before : Misc start root
  pub end : List ℕ
  pub element : Element 1 root t end
  pub after : Misc end []

-- the node is a tree that the bytes spell
abbrev pub Spells : List ℕ → Node → Type 0
Spells bytes node = SpellsTree bytes (tree_of node)
