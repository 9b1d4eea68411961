-- The values in a tree that a text spells are of bytes that a manifest may hold.
use Rattle.std.proofs.Common.{◌≡◌, ℕ, suc, ◌<◌, ◌≤◌, Bool, true, false, not, List, [], ◌∷◌, ◌++◌, length, get_or, drop, Option, Some, None, Result, Ok, Err, refl, sym, ap, ap₂, subst, ◌∙◌, inl, inr, append-nil, arith}
use Rattle.std.specs.Prelude.{◌==◌, ◌&&◌, ◌||◌, if◌then◌else◌, nat_eq, IfSome, IfOk, option_and_then, encode_utf8}
use Rattle.std.specs.List.{list_all, starts_with}
use Rattle.std.proofs.lemmas.Bool.{and_parts, cases_lt, le-leb}
use Rattle.std.proofs.lemmas.List.Folds.{list_all-append}
use Rattle.std.proofs.lemmas.Str.{inside_one}
use lib.Utf8.{scalar}
use Rattle.manifest_tree.specs.declared.fault.TreeKind.TheVariants.{Syntax}
use Rattle.manifest_tree.specs.declared.node.Attribute.{Attribute}
use Rattle.manifest_tree.specs.Lexis.{Fault, allowed, is_character, character_of, number_at, numbered_at, named_at, reference_at, plain, past_line_feed, referred, unit_at}
use Rattle.manifest_tree.specs.Tree.{Tree, Trees, tree, none, more}
use Rattle.manifest_tree.specs.Grammar.{Units, no_unit, one_unit, Attributes, no_attribute, one_attribute, Element, empty, full, Content, no_content, data_unit, note_inside, child, SpellsTree}
use Rattle.manifest_tree.specs.WrittenText.{is_content}

-- ---- what a tree holds

-- each value is of bytes that a manifest may hold
abbrev pub are_values : List Attribute → Bool
are_values attributes = list_all (λ (a : Attribute). is_content a.value) attributes

-- so is each of the values in a tree
abbrev mutual
  pub is_held : Tree → Bool
  is_held (tree name attributes children text) = are_values attributes && are_held children

  pub are_held : Trees → Bool
  are_held none = true
  are_held (more t ts) = is_held t && are_held ts

both : (a b : Bool) → a ≡ true → b ≡ true → (a && b) ≡ true
both a b p q = ap₂ (λ (x y : Bool). x && y) p q

-- ---- characters

all_at : (p : ℕ → Bool) (xs : List ℕ) → ((k : ℕ) → k < length xs → p (get_or xs k 0) ≡ true) → list_all p xs ≡ true
all_at p [] each = refl
all_at p (x ∷ xs) each = both (p x) (list_all p xs) (each 0 (omega arith)) (all_at p xs (λ k lt. each (suc k) (omega arith)))

high_allowed : (b : ℕ) → 128 ≤ b → allowed b ≡ true
unfolding allowed
high_allowed b high = rw (le-leb 32 b (omega arith)) refl

-- the bytes of a character that is allowed
spelled_allowed : (c : ℕ) → allowed c ≡ true → is_content (encode_utf8 c) ≡ true
spelled_allowed c is =
    all_at allowed (encode_utf8 c) (λ k lt. elim (cases_lt (get_or (encode_utf8 c) k 0) 128) [
      | inl small ↦ subst (λ (b : ℕ). allowed b ≡ true) (inside_one c [] (encode_utf8 c) k (sym (append-nil (encode_utf8 c))) lt small) is
      | inr high ↦ high_allowed (get_or (encode_utf8 c) k 0) high
    ])

-- ---- references

-- a reference to a character that is allowed
abbrev IsAllowed : ℕ × List ℕ → Type 0
IsAllowed found = allowed found.0 ≡ true

either_found : (b : Bool) (x y : Option (ℕ × List ℕ)) → (b ≡ true → IfSome x IsAllowed) → (b ≡ false → IfSome y IsAllowed) → IfSome (if b then x else y) IsAllowed
either_found true x y p q = p refl
either_found false x y p q = q refl

character_allowed : (b : Bool) (n : ℕ) (rest : List ℕ) → (b ≡ true → allowed n ≡ true) → IfSome (option_and_then (λ (c : ℕ). Some (c, rest)) (if b then Some n else None)) IsAllowed
character_allowed true n rest is = is refl
character_allowed false n rest is = tt

numbered : (o : Option (ℕ × List ℕ)) → IfSome (option_and_then (λ (found : ℕ × List ℕ). option_and_then (λ (c : ℕ). Some (c, found.1)) (character_of found.0)) o) IsAllowed
unfolding is_character
numbered None = tt
numbered (Some found) = character_allowed (allowed found.0 && scalar found.0) found.0 found.1 (λ is. (and_parts (allowed found.0) (scalar found.0) is).0)

numbered_allowed : (hexadecimal : Bool) (bytes : List ℕ) → IfSome (numbered_at hexadecimal bytes) IsAllowed
unfolding numbered_at
numbered_allowed hexadecimal bytes = numbered (number_at hexadecimal bytes)

named : (b : Bool) (c : ℕ) (rest : List ℕ) (others : Option (ℕ × List ℕ)) → allowed c ≡ true → IfSome others IsAllowed → IfSome (if b then Some (c, rest) else others) IsAllowed
named true c rest others here there = here
named false c rest others here there = there

module _ (bytes : List ℕ) where
  abbrev begins : List ℕ → Bool
  begins mark = starts_with nat_eq bytes mark

  abbrev none_named : Option (ℕ × List ℕ)
  none_named = None

  abbrev apostrophe : Option (ℕ × List ℕ)
  apostrophe = if begins (97 ∷ 112 ∷ 111 ∷ 115 ∷ 59 ∷ []) then Some (39, drop 5 bytes) else none_named

  abbrev quotation : Option (ℕ × List ℕ)
  quotation = if begins (113 ∷ 117 ∷ 111 ∷ 116 ∷ 59 ∷ []) then Some (34, drop 5 bytes) else apostrophe

  abbrev ampersand : Option (ℕ × List ℕ)
  ampersand = if begins (97 ∷ 109 ∷ 112 ∷ 59 ∷ []) then Some (38, drop 4 bytes) else quotation

  abbrev greater : Option (ℕ × List ℕ)
  greater = if begins (103 ∷ 116 ∷ 59 ∷ []) then Some (62, drop 3 bytes) else ampersand

  named_allowed : IfSome (named_at bytes) IsAllowed
  unfolding named_at allowed
  named_allowed =
      named (begins (108 ∷ 116 ∷ 59 ∷ [])) 60 (drop 3 bytes) greater refl
      (named (begins (103 ∷ 116 ∷ 59 ∷ [])) 62 (drop 3 bytes) ampersand refl
      (named (begins (97 ∷ 109 ∷ 112 ∷ 59 ∷ [])) 38 (drop 4 bytes) quotation refl
      (named (begins (113 ∷ 117 ∷ 111 ∷ 116 ∷ 59 ∷ [])) 34 (drop 5 bytes) apostrophe refl
      (named (begins (97 ∷ 112 ∷ 111 ∷ 115 ∷ 59 ∷ [])) 39 (drop 5 bytes) none_named refl tt))))

reference_allowed : (bytes : List ℕ) → IfSome (reference_at bytes) IsAllowed
unfolding reference_at
reference_allowed bytes =
    let decimal : Option (ℕ × List ℕ) = if starts_with nat_eq bytes (35 ∷ []) then numbered_at false (drop 1 bytes) else named_at bytes in
    either_found (starts_with nat_eq bytes (35 ∷ 120 ∷ [])) (numbered_at true (drop 2 bytes)) decimal (λ is. numbered_allowed true (drop 2 bytes)) (λ other.
    either_found (starts_with nat_eq bytes (35 ∷ [])) (numbered_at false (drop 1 bytes)) (named_at bytes) (λ is. numbered_allowed false (drop 1 bytes)) (λ other₁. named_allowed bytes))

-- ---- units

-- what is found is of bytes that a manifest may hold
abbrev IsContent : List ℕ × List ℕ → Type 0
IsContent found = is_content found.0 ≡ true

abbrev Unit_read : Type 0
Unit_read = Result (List ℕ × List ℕ) Fault

either_read : (b : Bool) (x y : Unit_read) → IfOk x IsContent → (b ≡ false → IfOk y IsContent) → IfOk (if b then x else y) IsContent
either_read true x y p q = p
either_read false x y p q = q refl

one_byte : (c : ℕ) → allowed c ≡ true → is_content (c ∷ []) ≡ true
one_byte c is = both (allowed c) true is refl

by_space : (b : Bool) (c : ℕ) → allowed c ≡ true → allowed (if b then 32 else c) ≡ true
unfolding allowed
by_space true c is = refl
by_space false c is = is

plain_allowed : (quoted : Bool) (c : ℕ) → allowed c ≡ true → allowed (plain quoted c) ≡ true
unfolding plain
plain_allowed quoted c is = by_space (quoted && (c == 9 || c == 10)) c is

feed_allowed : allowed 10 ≡ true
unfolding allowed
feed_allowed = refl

referred_content : (left : ℕ) (o : Option (ℕ × List ℕ)) → IfSome o IsAllowed → IfOk (referred left o) IsContent
referred_content left None is = tt
referred_content left (Some found) is = spelled_allowed found.0 is

-- a byte that is neither a mark nor kept out
plain_byte : (c : ℕ) (b : Bool) → (c == 60 || not (allowed c)) ≡ b → b ≡ false → allowed c ≡ true
plain_byte c b is other = by_parts (c == 60) (allowed c) (is ∙ other)
  where
    by_parts : (mark fits : Bool) → (mark || not fits) ≡ false → fits ≡ true
    by_parts true fits h = absurd cc
    by_parts false true h = refl
    by_parts false false h = absurd cc

unit_content : (quoted : Bool) (bytes : List ℕ) → IfOk (unit_at quoted bytes) IsContent
unit_content quoted [] = tt
unit_content quoted (c ∷ cs) =
    let bad : Unit_read = Err (Syntax, length (c ∷ cs)) in
    let kept : Unit_read = Ok (plain quoted c ∷ [], cs) in
    let byte : Unit_read = if c == 60 || not (allowed c) then bad else kept in
    let feed : Unit_read = Ok (plain quoted 10 ∷ [], past_line_feed cs) in
    let ended : Unit_read = if c == 13 then feed else byte in
    either_read (c == 38) (referred (length (c ∷ cs)) (reference_at cs)) ended (referred_content (length (c ∷ cs)) (reference_at cs) (reference_allowed cs)) (λ other.
    either_read (c == 13) feed byte (one_byte (plain quoted 10) (plain_allowed quoted 10 feed_allowed)) (λ other₁.
    either_read (c == 60 || not (allowed c)) bad kept tt (λ other₂. one_byte (plain quoted c) (plain_allowed quoted c (plain_byte c (c == 60 || not (allowed c)) refl other₂)))))

pieces : (piece value whole : List ℕ) → whole ≡ piece ++ value → is_content piece ≡ true → is_content value ≡ true → is_content whole ≡ true
pieces piece value whole is p q = ap is_content is ∙ list_all-append allowed piece value ∙ both (is_content piece) (is_content value) p q

units_held : {quote : ℕ} {a v b : List ℕ} → Units quote a v b → is_content v ≡ true
units_held no_unit = refl
units_held (one_unit {c = c} {bytes = cs} {after = after} {piece = piece} {value = value} {whole = whole} other read p is) =
    pieces piece value whole is (subst (λ (r : Unit_read). IfOk r IsContent) read (unit_content true (c ∷ cs))) (units_held p)

-- ---- elements

attributes_held : {names : List (List ℕ)} {a b : List ℕ} {others : List Attribute} → Attributes names a others b → are_values others ≡ true
attributes_held no_attribute = refl
attributes_held (one_attribute {a = x} {others = others} is new p) = both (is_content x.value) (are_values others) (units_held is.value) (attributes_held p)

mutual
  element_held : {level : ℕ} {a b : List ℕ} {t : Tree} → Element level a t b → is_held t ≡ true
  element_held (empty {attributes = attributes} shallow is closed) = both (are_values attributes) true (attributes_held is.attributes_are) refl
  element_held (full {attributes = attributes} {children = children} shallow is opens_here content ends) =
      both (are_values attributes) (are_held children) (attributes_held is.attributes_are) (content_held content)

  content_held : {level : ℕ} {a b text : List ℕ} {ts : Trees} → Content level a ts text b → are_held ts ≡ true
  content_held no_content = refl
  content_held (data_unit read p is) = content_held p
  content_held (note_inside e p) = content_held p
  content_held (child {t = t} {children = children} e p) = both (is_held t) (are_held children) (element_held e) (content_held p)

pub tree_held : (bytes : List ℕ) (t : Tree) → SpellsTree bytes t → is_held t ≡ true
tree_held bytes t spelled = element_held spelled.element
