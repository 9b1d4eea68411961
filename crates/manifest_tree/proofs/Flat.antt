-- What is in the grammar is read.
use Rattle.std.proofs.Common.{◌≡◌, ℕ, suc, ◌<◌, ◌≤◌, true, false, eqb, List, [], ◌∷◌, ◌++◌, length, Some, None, Ok, refl, sym, ap, subst, ◌∙◌, append_assoc, arith, inl, inr}
use Rattle.std.specs.Prelude.{◌==◌}
use Rattle.std.specs.Cmp.Lexicographic.{bytes_decides}
use Rattle.std.proofs.lemmas.Bool.{both_ways, eqb-true, eq-eqb, lt-ltb, cases_Bool}
use Rattle.std.proofs.lemmas.List.{append-nil, map-append}
use Rattle.manifest_tree.specs.declared.node.Attribute.{Attribute}
use Rattle.manifest_tree.specs.Lexis.{Fault, white, name_first, name_byte, past, has_name, name_at, aside, begin, unit_at, quote_at, is_among, attribute, opens, closes, tag_turn, turn_at, attribute_at, end_at}
use Rattle.manifest_tree.specs.Tree.{Tree, Trees, tree, none, more, with_last, joined}
use Rattle.manifest_tree.specs.Grammar.{Misc, nothing, space, note, Units, no_unit, one_unit, IsAttribute, Attributes, no_attribute, one_attribute, IsStart, IsEnd, Element, empty, full, Content, no_content, data_unit, note_inside, child, SpellsTree}
use Rattle.manifest_tree.specs.Spots.{Spot, start, before, inside, in_tag, in_value, behind, go, stop, done, onward, OpenTree, finished, with_child, with_text, opened, names_of, placed, next, root_step, before_step, markup_step, apart_step, inside_step, turned, tag_step, value_step, behind_apart, behind_step, Reads, here, step, Stops}
use Rattle.manifest_tree.proofs.Steps.{reads_join, reads_then, goes_on}

-- ---- before and behind the root

sixty_is_solid : white 60 ≡ false
unfolding white
sixty_is_solid = refl

before_blank : (c : ℕ) (cs : List ℕ) → white c ≡ true → next before (c ∷ cs) ≡ go before cs
unfolding before_step
before_blank c cs blank = rw blank refl

before_note : (bytes : List ℕ) → next before (60 ∷ bytes) ≡ onward (aside bytes) (root_step bytes)
unfolding before_step
before_note bytes = rw sixty_is_solid refl

behind_blank : (t : Tree) (c : ℕ) (cs : List ℕ) → white c ≡ true → next (behind t) (c ∷ cs) ≡ go (behind t) cs
unfolding behind_step
behind_blank t c cs blank = rw blank refl

behind_note : (t : Tree) (bytes : List ℕ) → next (behind t) (60 ∷ bytes) ≡ onward (aside bytes) (behind_apart t bytes)
unfolding behind_step
behind_note t bytes = rw sixty_is_solid refl

pub misc_before : {a b : List ℕ} → Misc a b → Reads before a before b
misc_before nothing = here
misc_before (space {c = c} {bytes = bytes} blank p) = step (before_blank c bytes blank) (misc_before p)
misc_before (note {bytes = bytes} {after = after} is p) = reads_join (goes_on (aside bytes) (Some after) (root_step bytes) here (before_note bytes) is refl) (misc_before p)

misc_behind : (t : Tree) {a b : List ℕ} → Misc a b → Reads (behind t) a (behind t) b
misc_behind t nothing = here
misc_behind t (space {c = c} {bytes = bytes} blank p) = step (behind_blank t c bytes blank) (misc_behind t p)
misc_behind t (note {bytes = bytes} {after = after} is p) = reads_join (goes_on (aside bytes) (Some after) (behind_apart t bytes) here (behind_note t bytes) is refl) (misc_behind t p)

-- ---- tags

attribute_turn : (names : List (List ℕ)) (w : List ℕ) (quote : ℕ) (after of : List ℕ) → has_name w ≡ true → of ≡ name_at w → is_among names of ≡ false → quote_at (past name_byte w) ≡ Ok (quote, after)
    → attribute_at names w ≡ Ok (attribute of quote, after)
unfolding attribute_at
attribute_turn names w quote after of named of_is new quoted =
    let new_too : is_among names (name_at w) ≡ false = ap (is_among names) (sym of_is) ∙ new in
    rw (named, new_too, quoted, ← of_is) refl

-- a byte that a name begins with is none that it does not
pub not_first : (c k : ℕ) → name_first c ≡ true → name_first k ≡ false → eqb c k ≡ false
not_first c k named other =
    elim (cases_Bool (eqb c k)) [
      | inl same ↦ absurd (both_ways (name_first k) other (ap name_first (sym (eqb-true c k same)) ∙ named))
      | inr differ ↦ differ
    ]

pub bang : name_first 33 ≡ false
unfolding name_first
bang = refl

pub slash : name_first 47 ≡ false
unfolding name_first
slash = refl

pub greater : name_first 62 ≡ false
unfolding name_first
greater = refl

pub question : name_first 63 ≡ false
unfolding name_first
question = refl

pub named_aside : (tag : List ℕ) → has_name tag ≡ true → aside tag ≡ Ok None
named_aside [] named = absurd (both_ways false refl named)
named_aside (c ∷ cs) named = rw (not_first c 33 named bang, not_first c 63 named question) refl

pub named_turn : (names : List (List ℕ)) (w : List ℕ) (quote : ℕ) (after of : List ℕ) → has_name w ≡ true → of ≡ name_at w → is_among names of ≡ false → quote_at (past name_byte w) ≡ Ok (quote, after)
    → turn_at names false w ≡ Ok (attribute of quote, after)
named_turn names [] quote after of named of_is new quoted = absurd (both_ways false refl named)
named_turn names (c ∷ cs) quote after of named of_is new quoted =
    rw (not_first c 62 named greater, not_first c 47 named slash) (attribute_turn names (c ∷ cs) quote after of named of_is new quoted)

module _ (name : List ℕ) (around : List OpenTree) where
  value_unit : (attributes : List Attribute) (of : List ℕ) (quote : ℕ) (value : List ℕ) (c : ℕ) (cs : List ℕ) → (c == quote) ≡ false
      → next (in_value name attributes of quote value around) (c ∷ cs) ≡ onward (unit_at true (c ∷ cs)) (λ found. go (in_value name attributes of quote (value ++ found.0) around) found.1)
  unfolding value_step
  value_unit attributes of quote value c cs other = rw other refl

  value_end : (attributes : List Attribute) (of : List ℕ) (quote : ℕ) (value cs : List ℕ)
      → next (in_value name attributes of quote value around) (quote ∷ cs) ≡ go (in_tag name (attributes ++ record { name = of; value = value } ∷ []) around) cs
  unfolding value_step
  value_end attributes of quote value cs = rw (eq-eqb quote quote refl) refl

  pub units_read : (attributes : List Attribute) (of : List ℕ) {quote : ℕ} (value : List ℕ) {a v b : List ℕ} → Units quote a v b
      → Reads (in_value name attributes of quote value around) a (in_value name attributes of quote (value ++ v) around) b
  units_read attributes of {quote} value {a} {v} {b} no_unit =
      subst (λ (l : List ℕ). Reads (in_value name attributes of quote value around) a (in_value name attributes of quote l around) a) (sym (append-nil value)) here
  units_read attributes of {quote} value {a} {v} {b} (one_unit {c = c} {bytes = cs} {after = after} {piece = piece} {value = w} other read p is) =
      let first = goes_on (unit_at true (c ∷ cs)) (piece, after) (λ found. go (in_value name attributes of quote (value ++ found.0) around) found.1) here (value_unit attributes of quote value c cs other) read refl in
      let all = reads_join first (units_read attributes of (value ++ piece) p) in
      subst (λ (l : List ℕ). Reads (in_value name attributes of quote value around) (c ∷ cs) (in_value name attributes of quote l around) b) (append_assoc value piece w ∙ ap (λ (l : List ℕ). value ++ l) (sym is)) all

  pub tag_next : (attributes : List Attribute) (bytes : List ℕ) → next (in_tag name attributes around) bytes ≡ onward (tag_turn (names_of attributes) bytes) (turned name attributes around)
  unfolding tag_step
  tag_next attributes bytes = refl

  attribute_read : (attributes : List Attribute) (a b : List ℕ) (x : Attribute) → IsAttribute a x b → is_among (names_of attributes) x.name ≡ false
      → Reads (in_tag name attributes around) a (in_tag name (attributes ++ x ∷ []) around) b
  attribute_read attributes a b x is new =
      let w = past white a in
      let turn : tag_turn (names_of attributes) a ≡ Ok (attribute x.name is.quote, is.inside) =
      rw is.spaced (named_turn (names_of attributes) w is.quote is.inside x.name is.named is.name new is.opened) in
      let first = goes_on (tag_turn (names_of attributes) a) (attribute x.name is.quote, is.inside) (turned name attributes around) here (tag_next attributes a) turn refl in
      reads_then (reads_join first (units_read attributes x.name [] is.value)) (value_end attributes x.name is.quote x.value b)

  attributes_read : (attributes : List Attribute) {names : List (List ℕ)} {a b : List ℕ} {others : List Attribute} → names ≡ names_of attributes → Attributes names a others b
      → Reads (in_tag name attributes around) a (in_tag name (attributes ++ others) around) b
  attributes_read attributes {names} {a} {b} names_are no_attribute =
      subst (λ (l : List Attribute). Reads (in_tag name attributes around) a (in_tag name l around) a) (sym (append-nil attributes)) here
  attributes_read attributes {names} {a} {b} names_are (one_attribute {after = after} {a = x} {others = others} is new p) =
      let first = attribute_read attributes a after x is (subst (λ (ns : List (List ℕ)). is_among ns x.name ≡ false) names_are new) in
      let names_then : names ++ x.name ∷ [] ≡ names_of (attributes ++ x ∷ []) = ap (λ (ns : List (List ℕ)). ns ++ x.name ∷ []) names_are ∙ sym (map-append (λ (y : Attribute). y.name) attributes (x ∷ [])) in
      subst (λ (l : List Attribute). Reads (in_tag name attributes around) a (in_tag name l around) b) (append_assoc attributes (x ∷ []) others)
      (reads_join first (attributes_read (attributes ++ x ∷ []) names_then p))

  pub opens_read : (attributes : List Attribute) (a b : List ℕ) → past white a ≡ 62 ∷ b → Reads (in_tag name attributes around) a (inside (opened name attributes) around) b
  opens_read attributes a b is =
      let turn : turn_at (names_of attributes) (length (past white a) == length a) (past white a) ≡ Ok (opens, b) = rw is refl in
      goes_on (tag_turn (names_of attributes) a) (opens, b) (turned name attributes around) here (tag_next attributes a) turn refl

  closes_read : (attributes : List Attribute) (a b : List ℕ) → past white a ≡ 47 ∷ 62 ∷ b → Reads (in_tag name attributes around) a (placed (tree name attributes none []) around) b
  closes_read attributes a b is =
      let turn : turn_at (names_of attributes) (length (past white a) == length a) (past white a) ≡ Ok (closes, b) = rw is refl in
      goes_on (tag_turn (names_of attributes) a) (closes, b) (turned name attributes around) here (tag_next attributes a) turn refl

-- ---- elements

pub record ElementRead (level : ℕ) (a : List ℕ) (t : Tree) (b : List ℕ) (around : List OpenTree) : Type 0 where
  pub tag : List ℕ
  pub begins : a ≡ 60 ∷ tag
  pub shallow : level ≤ 64
  pub named : has_name tag ≡ true
  pub reads : Reads (in_tag (name_at tag) [] around) (past name_byte tag) (placed t around) b

pub inside_next : (o : OpenTree) (around : List OpenTree) (bytes : List ℕ) → next (inside o around) (60 ∷ bytes) ≡ onward (aside bytes) (apart_step o around bytes)
unfolding inside_step
inside_next o around bytes = refl

unit_first : (c : ℕ) (cs : List ℕ) (found : List ℕ × List ℕ) → unit_at false (c ∷ cs) ≡ Ok found → eqb c 60 ≡ false
unit_first c cs found read =
    elim (cases_Bool (eqb c 60)) [
      | inl same ↦ absurd (less_is_no_unit cs found (subst (λ (x : ℕ). unit_at false (x ∷ cs) ≡ Ok found) (eqb-true c 60 same) read))
      | inr other ↦ other
    ]
  where
    less_is_no_unit : (l : List ℕ) (x : List ℕ × List ℕ) → unit_at false (60 ∷ l) ≡ Ok x → ⊥
    less_is_no_unit l x e = cc

inside_unit : (o : OpenTree) (around : List OpenTree) (c : ℕ) (cs piece after : List ℕ) → unit_at false (c ∷ cs) ≡ Ok (piece, after) → Reads (inside o around) (c ∷ cs) (inside (with_text o piece) around) after
unfolding inside_step
inside_unit o around c cs piece after read =
    let e : next (inside o around) (c ∷ cs) ≡ onward (unit_at false (c ∷ cs)) (λ found. go (inside (with_text o found.0) around) found.1) = rw (unit_first c cs (piece, after) read) refl in
    goes_on (unit_at false (c ∷ cs)) (piece, after) (λ found. go (inside (with_text o found.0) around) found.1) here e read refl

inside_note : (o : OpenTree) (around : List OpenTree) (bytes after : List ℕ) → aside bytes ≡ Ok (Some after) → Reads (inside o around) (60 ∷ bytes) (inside o around) after
inside_note o around bytes after is = goes_on (aside bytes) (Some after) (apart_step o around bytes) here (inside_next o around bytes) is refl

markup_start : (o : OpenTree) (around : List OpenTree) (tag : List ℕ) → has_name tag ≡ true → length around < 63 → markup_step o around tag ≡ go (in_tag (name_at tag) [] (o ∷ around)) (past name_byte tag)
markup_start o around [] named shallow = absurd (both_ways false refl named)
markup_start o around (c ∷ cs) named shallow = rw (not_first c 47 named slash, named, lt-ltb _ _ shallow) refl

pub inside_start : (o : OpenTree) (around : List OpenTree) (tag : List ℕ) → has_name tag ≡ true → length around < 63 → Reads (inside o around) (60 ∷ tag) (in_tag (name_at tag) [] (o ∷ around)) (past name_byte tag)
inside_start o around tag named shallow =
    goes_on (aside tag) None (apart_step o around tag) here (inside_next o around tag) (named_aside tag named) (markup_start o around tag named shallow)

end_found : (name : List ℕ) (left : ℕ) (e rest : List ℕ) → IsEnd e name rest → end_at name left e ≡ Ok rest
unfolding end_at
end_found name left e rest is = rw (is.named, (bytes_decides (name_at e) name).1 is.name_is, is.ended) refl

pub inside_end : (o : OpenTree) (around : List OpenTree) (e rest : List ℕ) → IsEnd e o.name rest → Reads (inside o around) (60 ∷ 47 ∷ e) (placed (finished o) around) rest
inside_end o around e rest is =
    let left = length (60 ∷ 47 ∷ e) in
    let m : markup_step o around (47 ∷ e) ≡ go (placed (finished o) around) rest = rw (end_found o.name left e rest is) refl in
    goes_on (aside (47 ∷ e)) None (apart_step o around (47 ∷ e)) here (inside_next o around (47 ∷ e)) refl m

abbrev pub with_content : OpenTree → Trees → List ℕ → OpenTree
with_content o ts text = record { name = o.name; attributes = o.attributes; children = joined o.children ts; text = o.text ++ text }

joined_none : (ts : Trees) → joined ts none ≡ ts
joined_none none = refl
joined_none (more t ts) = ap (more t) (joined_none ts)

last_joined : (ts : Trees) (t : Tree) (us : Trees) → joined (with_last ts t) us ≡ joined ts (more t us)
last_joined none t us = refl
last_joined (more s ts) t us = ap (more s) (last_joined ts t us)

unit_read : (o : OpenTree) (around : List OpenTree) (bytes piece after : List ℕ) → unit_at false bytes ≡ Ok (piece, after) → Reads (inside o around) bytes (inside (with_text o piece) around) after
unit_read o around [] piece after read = absurd cc
unit_read o around (c ∷ cs) piece after read = inside_unit o around c cs piece after read

child_read : {level : ℕ} (o : OpenTree) (around : List OpenTree) (a b : List ℕ) (t : Tree) → ElementRead level a t b (o ∷ around) → level ≡ suc (suc (length around)) → Reads (inside o around) a (inside (with_child o t) around) b
child_read o around a b t e level_is =
    subst (λ (x : List ℕ). Reads (inside o around) x (inside (with_child o t) around) b) (sym e.begins)
    (reads_join (inside_start o around e.tag e.named (omega (arith, level_is, e.shallow))) e.reads)

content_none : (o : OpenTree) → with_content o none [] ≡ o
content_none o =
    ap (λ (ts : Trees). record { name = o.name; attributes = o.attributes; children = ts; text = o.text ++ [] }) (joined_none o.children)
    ∙ ap (λ (l : List ℕ). record { name = o.name; attributes = o.attributes; children = o.children; text = l }) (append-nil o.text)

content_text : (o : OpenTree) (piece text : List ℕ) (ts : Trees) → with_content (with_text o piece) ts text ≡ with_content o ts (piece ++ text)
content_text o piece text ts = ap (λ (l : List ℕ). record { name = o.name; attributes = o.attributes; children = joined o.children ts; text = l }) (append_assoc o.text piece text)

content_child : (o : OpenTree) (t : Tree) (ts : Trees) (text : List ℕ) → with_content (with_child o t) ts text ≡ with_content o (more t ts) text
content_child o t ts text = ap (λ (us : Trees). record { name = o.name; attributes = o.attributes; children = us; text = o.text ++ text }) (last_joined o.children t ts)

pub tag_read : (level : ℕ) (b name after : List ℕ) (attributes : List Attribute) (around : List OpenTree) → IsStart b name attributes after → Reads (in_tag (name_at b) [] around) (past name_byte b) (in_tag name attributes around) after
tag_read level b name after attributes around is =
    subst (λ (n : List ℕ). Reads (in_tag (name_at b) [] around) (past name_byte b) (in_tag n attributes around) after) (sym is.name_is) (attributes_read (name_at b) around [] refl is.attributes_are)

inside_to : {s : Spot} {a b : List ℕ} (o p : OpenTree) (around : List OpenTree) → o ≡ p → Reads s a (inside o around) b → Reads s a (inside p around) b
inside_to {s} {a} {b} o p around is r = subst (λ (x : OpenTree). Reads s a (inside x around) b) is r

mutual
  element_read : {level : ℕ} {a b : List ℕ} {t : Tree} → Element level a t b → (around : List OpenTree) → level ≡ suc (length around) → ElementRead level a t b around
  element_read {level} (empty {bytes = bytes} {name = name} {after = after} {rest = rest} {attributes = attributes} shallow is closed) around level_is =
      record {
        tag = bytes;
        begins = refl;
        shallow = shallow;
        named = is.named;
        reads = reads_join (tag_read level bytes name after attributes around is) (closes_read name around attributes after rest closed);
      }
  element_read {level} (full {bytes = bytes} {name = name} {after = after} {inside = inner} {text = text} {end = end} {rest = rest} {attributes = attributes} {children = children} shallow is opens_here within ends) around level_is =
      record {
        tag = bytes;
        begins = refl;
        shallow = shallow;
        named = is.named;
        reads =
            reads_join (tag_read level bytes name after attributes around is)
            (reads_join (opens_read name around attributes after inner opens_here)
            (reads_join (content_read within (opened name attributes) around (ap suc level_is)) (inside_end (with_content (opened name attributes) children text) around end rest ends)));
      }

  pub content_read : {level : ℕ} {a b text : List ℕ} {ts : Trees} → Content level a ts text b → (o : OpenTree) (around : List OpenTree) → level ≡ suc (suc (length around)) → Reads (inside o around) a (inside (with_content o ts text) around) b
  content_read no_content o around level_is = inside_to o (with_content o none []) around (sym (content_none o)) here
  content_read (data_unit {bytes = bytes} {after = after} {piece = piece} {text = text} {whole = whole} {rest = rest} {children = ts} read p is) o around level_is =
      inside_to (with_content (with_text o piece) ts text) (with_content o ts whole) around (content_text o piece text ts ∙ ap (with_content o ts) (sym is))
      (reads_join (unit_read o around bytes piece after read) (content_read p (with_text o piece) around level_is))
  content_read (note_inside {bytes = bytes} {after = after} is p) o around level_is = reads_join (inside_note o around bytes after is) (content_read p o around level_is)
  content_read (child {bytes = bytes} {after = after} {text = text} {rest = rest} {t = t} {children = ts} e p) o around level_is =
      inside_to (with_content (with_child o t) ts text) (with_content o (more t ts) text) around (content_child o t ts text)
      (reads_join (child_read o around bytes after t (element_read e (o ∷ around) level_is) level_is) (content_read p (with_child o t) around level_is))

-- ---- the whole text

pub before_start : (tag : List ℕ) → has_name tag ≡ true → Reads before (60 ∷ tag) (in_tag (name_at tag) [] []) (past name_byte tag)
before_start tag named = goes_on (aside tag) None (root_step tag) here (before_note tag) (named_aside tag named) (rw named refl)

root_read : (a b : List ℕ) (t : Tree) → Element 1 a t b → Reads before a (behind t) b
root_read a b t e =
    let r = element_read e [] refl in
    subst (λ (x : List ℕ). Reads before x (behind t) b) (sym r.begins) (reads_join (before_start r.tag r.named) r.reads)

-- what is spelled is read to the end
pub spelled_read : (bytes : List ℕ) (t : Tree) → SpellsTree bytes t → Reads start bytes (behind t) []
spelled_read bytes t p =
    let begun : Reads start bytes before p.start = goes_on (begin bytes) p.start (λ rest. go before rest) here refl p.begun refl in
    reads_join begun (reads_join (misc_before p.before) (reads_join (root_read p.root p.end t p.element) (misc_behind t p.after)))

-- ---- steps are the only ones

abbrev pub Rests : Spot → List ℕ → Type 0
Rests s a = (t : Spot) (b : List ℕ) → next s a ≡ go t b → ⊥

go_spot : (s t : Spot) (a b : List ℕ) → go s a ≡ go t b → s ≡ t
go_spot s t a b e = cc

go_rest : (s t : Spot) (a b : List ℕ) → go s a ≡ go t b → a ≡ b
go_rest s t a b e = cc

pub same_end : {s t u : Spot} {a b c : List ℕ} → Reads s a t b → Reads s a u c → Rests t b → Rests u c → (t ≡ u) × (b ≡ c)
same_end here here p q = (refl, refl)
same_end here (step {t = v} {after = d} e r) p q = absurd (p v d e)
same_end (step {t = v} {after = d} e r) here p q = absurd (q v d e)
same_end {u = u} {c = c} (step {t = v} {after = d} e r) (step {t = w} {after = f} g h) p q =
    let same = sym e ∙ g in
    same_end r (subst (λ (x : Spot). Reads x d u c) (sym (go_spot v w d f same)) (subst (λ (x : List ℕ). Reads w x u c) (sym (go_rest v w d f same)) h)) p q

pub behind_rests : (t : Tree) → Rests (behind t) []
unfolding behind_step
behind_rests t u b e = cc

pub stopped_rests : (s : Spot) (a : List ℕ) (fault : Fault) → next s a ≡ stop fault → Rests s a
stopped_rests s a fault is t b e = cc

behind_tree : (t u : Tree) → behind t ≡ behind u → t ≡ u
behind_tree t u e = cc

pub one_tree_read : (bytes : List ℕ) (t u : Tree) → Reads start bytes (behind t) [] → Reads start bytes (behind u) [] → t ≡ u
one_tree_read bytes t u p q = behind_tree t u (same_end p q (behind_rests t) (behind_rests u)).0

done_stop : (t : Tree) (fault : Fault) → done t ≡ stop fault → ⊥
done_stop t fault e = cc

behind_done : (t : Tree) → next (behind t) [] ≡ done t
unfolding behind_step
behind_done t = refl

stop_is : (f g : Fault) → stop f ≡ stop g → f ≡ g
stop_is f g e = cc

-- a text that is read to the end has no fault
pub read_stops : (bytes : List ℕ) (t : Tree) (fault : Fault) → Reads start bytes (behind t) [] → Stops start bytes fault → ⊥
read_stops bytes t fault p q =
    let same = same_end p q.reads (behind_rests t) (stopped_rests q.spot q.rest fault q.stopped) in
    let stopped : next (behind t) [] ≡ stop fault = subst (λ (x : Spot). next x [] ≡ stop fault) (sym same.0) (subst (λ (x : List ℕ). next q.spot x ≡ stop fault) (sym same.1) q.stopped) in
    done_stop t fault (sym (behind_done t) ∙ stopped)

-- and no two faults
pub one_fault : (bytes : List ℕ) (f g : Fault) → Stops start bytes f → Stops start bytes g → f ≡ g
one_fault bytes f g p q =
    let same = same_end p.reads q.reads (stopped_rests p.spot p.rest f p.stopped) (stopped_rests q.spot q.rest g q.stopped) in
    let stopped : next p.spot p.rest ≡ stop g = subst (λ (x : Spot). next x p.rest ≡ stop g) (sym same.0) (subst (λ (x : List ℕ). next q.spot x ≡ stop g) (sym same.1) q.stopped) in
    stop_is f g (sym p.stopped ∙ stopped)
