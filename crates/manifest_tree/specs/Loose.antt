-- Texts taken loosely: without regard to their length, to UTF-8, to levels, to which names
-- attributes and end tags have, and to references. In each relation the first list of bytes begins
-- with the part, and the last is what stands behind it.
use Rattle.std.specs.Prelude.{◌≡◌, ℕ, Bool, true, false, ◌&&◌, not, ◌==◌, List, [], ◌∷◌, ◌++◌, length, Some, Ok}
use Rattle.manifest_tree.specs.Lexis.{white, allowed, name_byte, past, has_name, aside, begin, quote_at}
use Rattle.manifest_tree.specs.Grammar.{Misc}

-- what may stand between markup
unfoldable pub data_byte : ℕ → Bool
data_byte c = allowed c && not (c == 60)

-- what may stand in a value
unfoldable pub value_byte : ℕ → ℕ → Bool
value_byte quote c = data_byte c && not (c == quote)

-- an attribute: white space, a name, `=` and a quote, and a value with the same quote behind it
pub record LooseAttribute (bytes rest : List ℕ) : Type 0 where
  pub spaced : (length (past white bytes) == length bytes) ≡ false
  pub named : has_name (past white bytes) ≡ true
  pub quote : ℕ
  pub inside : List ℕ
  pub opened : quote_at (past name_byte (past white bytes)) ≡ Ok (quote, inside)
  pub ended : past (value_byte quote) inside ≡ quote ∷ rest

pub data LooseAttributes : List ℕ → List ℕ → Type 0 where
  no_loose : {rest : List ℕ} → LooseAttributes rest rest
  one_loose : {bytes after rest : List ℕ} → LooseAttribute bytes after → LooseAttributes after rest
      → LooseAttributes bytes rest

-- a start tag behind its `<`, up to the white space before its end
pub record LooseStart (bytes rest : List ℕ) : Type 0 where
  pub named : has_name bytes ≡ true
  pub attributes : LooseAttributes (past name_byte bytes) rest

-- an end tag behind its `</`
pub record LooseEnd (bytes rest : List ℕ) : Type 0 where
  pub named : has_name bytes ≡ true
  pub ended : past white (past name_byte bytes) ≡ 62 ∷ rest

mutual
  -- a tag that ends in `/>`, or a start tag, content and an end tag
  pub data LooseElement : List ℕ → List ℕ → Type 0 where
    loose_empty : {bytes after rest : List ℕ} → LooseStart bytes after
        → past white after ≡ 47 ∷ 62 ∷ rest → LooseElement (60 ∷ bytes) rest
    loose_full : {bytes after inside end rest : List ℕ} → LooseStart bytes after
        → past white after ≡ 62 ∷ inside → LooseContent inside (60 ∷ 47 ∷ end) → LooseEnd end rest
        → LooseElement (60 ∷ bytes) rest

  -- character data, comments, instructions and elements
  pub data LooseContent : List ℕ → List ℕ → Type 0 where
    loose_nothing : {rest : List ℕ} → LooseContent rest rest
    loose_byte : {c : ℕ} {bytes rest : List ℕ} → data_byte c ≡ true → LooseContent bytes rest
        → LooseContent (c ∷ bytes) rest
    loose_note : {bytes after rest : List ℕ} → aside bytes ≡ Ok (Some after)
        → LooseContent after rest → LooseContent (60 ∷ bytes) rest
    loose_child : {bytes after rest : List ℕ} → LooseElement bytes after → LooseContent after rest
        → LooseContent bytes rest

-- a byte order mark and a declaration or none, white space, comments and instructions, one element,
-- and again those
pub record LooseText (bytes : List ℕ) : Type 0 where
  pub start : List ℕ
  pub begun : begin bytes ≡ Ok start
  pub root : List ℕ
  pub before : Misc start root
  pub end : List ℕ
  pub element : LooseElement root end
  pub after : Misc end []

-- some bytes behind these make a text of them
pub record Begins (bytes : List ℕ) : Type 0 where
  pub more : List ℕ
  pub text : LooseText (bytes ++ more)

-- The place of the first byte with which the bytes so far begin no text; or the end, where all of
-- them do and are none.
pub data IsLost (bytes : List ℕ) : ℕ → Type 0 where
  at_byte : (before : List ℕ) (c : ℕ) (after : List ℕ) {place : ℕ} → bytes ≡ before ++ c ∷ after
      → Begins before → (Begins (before ++ c ∷ []) → ⊥)
      → place ≡ length before → IsLost bytes place
  at_end : {place : ℕ} → Begins bytes → (LooseText bytes → ⊥) → place ≡ length bytes
      → IsLost bytes place
