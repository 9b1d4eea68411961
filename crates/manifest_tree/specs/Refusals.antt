-- The fault of a text: its kind, and where it stands.
use Rattle.std.specs.Prelude.{◌≡◌, ℕ, suc, ◌-◌, ◌<◌, ◌≤◌, true, false, ◌==◌, List, [], ◌∷◌, length, None, Result, Ok, Err}
use Rattle.std.specs.Str.{IsUtf8, IsValidUpTo, bytes_eq}
use Rattle.small_types.specs.declared.limits.TheConstants.{LEVEL_LIMIT, MANIFEST_LIMIT}
use Rattle.manifest_tree.specs.declared.fault.TreeKind.{TreeKind}
use Rattle.manifest_tree.specs.declared.fault.TreeKind.TheVariants.{NotUtf8, Syntax, Entity, TagMismatch, AttributeTwice, TooDeep, TooLong}
use Rattle.manifest_tree.specs.declared.fault.TreeError.{TreeError}
use Rattle.manifest_tree.specs.declared.fault.TreeError.TheVariants as errors
use Rattle.manifest_tree.specs.declared.node.Attribute.{Attribute}
use Rattle.manifest_tree.specs.Lexis.{white, name_byte, past, has_name, name_at, begin, quote_at, is_among, reference_at}
use Rattle.manifest_tree.specs.declared.node.Node.{Node}
use Rattle.manifest_tree.specs.Tree.{Tree, Trees, tree_of}
use Rattle.manifest_tree.specs.Grammar.{Misc, Units, IsStart, Element, Content}
use Rattle.manifest_tree.specs.Loose.{IsLost}
use Rattle.manifest_tree.specs.Spots.{OpenTree, names_of}

module _ (whole : List ℕ) where
  -- Reading stands in the content of these elements, from the innermost to the root, and these
  -- bytes are left; where no element is open, before the root. All before them is whole, and has no
  -- fault.
  pub data Stands : List OpenTree → List ℕ → Type 0 where
    outside : {b rest : List ℕ} → begin whole ≡ Ok b → Misc b rest → Stands [] rest
    within : {around : List OpenTree} {b name after inner text rest : List ℕ}
        {attributes : List Attribute} {children : Trees}
        → Stands around (60 ∷ b) → suc (length around) ≤ LEVEL_LIMIT
        → IsStart b name attributes after → past white after ≡ 62 ∷ inner
        → Content (suc (suc (length around))) inner children text rest
        → Stands (record { name = name; attributes = attributes; children = children; text = text }
        ∷ around) rest

  -- reading stands in a start tag, behind its name and these attributes, inside of these elements
  pub record InTag (name : List ℕ) (attributes : List Attribute) (around : List OpenTree)
      (rest : List ℕ) : Type 0 where
    pub tag : List ℕ
    pub stands : Stands around (60 ∷ tag)
    pub shallow : suc (length around) ≤ LEVEL_LIMIT
    pub start_is : IsStart tag name attributes rest

  -- reading stands in the value of this attribute of a tag
  pub record InValue (name : List ℕ) (attributes : List Attribute) (of : List ℕ) (quote : ℕ)
      (value : List ℕ) (around : List OpenTree) (rest : List ℕ) : Type 0 where
    pub from : List ℕ
    pub in_tag_there : InTag name attributes around from
    pub spaced : (length (past white from) == length from) ≡ false
    pub named : has_name (past white from) ≡ true
    pub of_is : of ≡ name_at (past white from)
    pub new : is_among (names_of attributes) of ≡ false
    pub within_quotes : List ℕ
    pub quoted : quote_at (past name_byte (past white from)) ≡ Ok (quote, within_quotes)
    pub so_far : Units quote within_quotes value rest

  -- reading stands behind the root
  pub record IsBehind (t : Tree) (rest : List ℕ) : Type 0 where
    pub root : List ℕ
    pub end : List ℕ
    pub stands : Stands [] root
    pub element : Element 1 root t end
    pub after : Misc end rest

  -- A fault that is no fault of form, and the bytes from its place on. All before it is without
  -- fault; a tag need not be finished, its name is enough.
  pub data IsFault : TreeKind → List ℕ → Type 0 where
    -- in character data an `&` begins no reference
    entity : {top : OpenTree} {around : List OpenTree} {rest : List ℕ}
        → Stands (top ∷ around) (38 ∷ rest) → reference_at rest ≡ None → IsFault Entity (38 ∷ rest)
    -- so in a value
    entity_in_value : {name of value rest : List ℕ} {attributes : List
        Attribute} {quote : ℕ} {around : List OpenTree}
        → InValue name attributes of quote value around (38 ∷ rest) → (38 == quote) ≡ false
        → reference_at rest ≡ None → IsFault Entity (38 ∷ rest)
    -- an end tag has another name than the open element
    mismatch : {top : OpenTree} {around : List OpenTree} {rest : List ℕ}
        → Stands (top ∷ around) (60 ∷ 47 ∷ rest) → has_name rest ≡ true
        → bytes_eq (name_at rest) top.name ≡ false
        → IsFault TagMismatch (60 ∷ 47 ∷ rest)
    -- behind white space in a tag comes a name that the tag had before
    twice : {name rest : List ℕ} {attributes : List Attribute} {around : List OpenTree}
        → InTag name attributes around rest → (length (past white rest) == length rest) ≡ false
        → has_name (past white rest) ≡ true
        → is_among (names_of attributes) (name_at (past white rest)) ≡ true
        → IsFault AttributeTwice (past white rest)
    -- a start tag comes where 64 elements are open
    deep : {around : List OpenTree} {rest : List ℕ} → Stands around (60 ∷ rest)
        → has_name rest ≡ true → LEVEL_LIMIT ≤ length around → IsFault TooDeep (60 ∷ rest)

-- The refusal of a text: its kind and its place, which counts bytes from 0.
pub data IsRefusal (bytes : List ℕ) : TreeKind → ℕ → Type 0 where
  too_long : MANIFEST_LIMIT < length bytes → IsRefusal bytes TooLong MANIFEST_LIMIT
  -- the place is that of the first byte that is no UTF-8
  not_utf8 : {place : ℕ} → length bytes ≤ MANIFEST_LIMIT → (IsUtf8 bytes → ⊥)
      → IsValidUpTo bytes place → IsRefusal bytes NotUtf8 place
  other : {kind : TreeKind} {rest : List ℕ} {place : ℕ} → length bytes ≤ MANIFEST_LIMIT
      → IsUtf8 bytes → IsFault bytes kind rest → place ≡ length bytes - length rest
      → IsRefusal bytes kind place
  -- the place is that of the first byte with which the bytes so far begin no text, or the end, and
  -- no other fault stands there or before it
  syntax : {place : ℕ} → length bytes ≤ MANIFEST_LIMIT → IsUtf8 bytes → IsLost bytes place
      → ((kind : TreeKind) (rest : List ℕ) → IsFault bytes kind rest
      → place < length bytes - length rest)
      → IsRefusal bytes Syntax place

abbrev pub Refuses : List ℕ → TreeError → Type 0
Refuses bytes errors.Memory = Unit {0}
Refuses bytes (errors.Refused fault) = IsRefusal bytes fault.kind fault.place

-- the answer is a node that is the tree, unless memory ran out
abbrev pub Answers : Tree → Result Node TreeError → Type 0
Answers t (Ok node) = tree_of node ≡ t
Answers t (Err e) = e ≡ errors.Memory
