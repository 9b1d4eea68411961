-- What was read is in the grammar.
use Rattle.std.proofs.Common.{◌≡◌, ℕ, suc, ◌≤◌, Bool, true, false, cond, eqb, List, [], ◌∷◌, ◌++◌, length, Option, Some, None, Ok, Err, refl, sym, ap, subst, ◌∙◌, append_assoc, arith, inl, inr, ◌⊎◌}
use Rattle.std.specs.Prelude.{◌==◌, nat_lt}
use Rattle.std.specs.Str.{bytes_eq, IsUtf8}
use Rattle.std.specs.Cmp.Lexicographic.{bytes_decides}
use Rattle.std.proofs.lemmas.Bool.{eqb-true, ltb-true}
use Rattle.std.proofs.lemmas.List.{append-nil}
use Rattle.manifest_tree.specs.declared.node.Attribute.{Attribute}
use Rattle.manifest_tree.specs.declared.fault.TreeKind.TheVariants.{Syntax, TooDeep, TagMismatch, AttributeTwice}
use Rattle.manifest_tree.specs.Lexis.{Fault, Read, white, name_byte, past, has_name, name_at, aside, begin, unit_at, quote_at, is_among, TagTurn, attribute, opens, closes, tag_turn, turn_at, attribute_at, end_at, expect, ◌>>=◌}
use Rattle.manifest_tree.specs.Tree.{Tree, Trees, tree, none, more, with_last, joined}
use Rattle.manifest_tree.specs.Grammar.{Misc, nothing, space, note, Units, no_unit, one_unit, IsAttribute, Attributes, no_attribute, one_attribute, IsEnd, Element, empty, full, Content, no_content, data_unit, note_inside, child, SpellsTree}
use Rattle.manifest_tree.specs.Refusals.{Stands, outside, within, InTag, InValue, IsBehind}
use Rattle.manifest_tree.specs.Spots.{Spot, start, before, inside, in_tag, in_value, behind, Next, go, stop, done, onward, OpenTree, finished, with_text, opened, names_of, placed, next, root_step, before_step, markup_step, apart_step, inside_step, turned, tag_step, value_step, behind_apart, behind_step, Reads, here, step}

-- ---- one more at the end

pub misc_join : {a b c : List ℕ} → Misc a b → Misc b c → Misc a c
misc_join nothing q = q
misc_join (space w p) q = space w (misc_join p q)
misc_join (note e p) q = note e (misc_join p q)

pub units_join : {quote : ℕ} {a v b w c : List ℕ} → Units quote a v b → Units quote b w c → Units quote a (v ++ w) c
units_join no_unit q = q
units_join {w = w} (one_unit {piece = piece} {value = value} other read p is) q =
    one_unit other read (units_join p q) (ap (λ (v : List ℕ). v ++ w) is ∙ append_assoc piece value w)

pub attributes_last : {names : List (List ℕ)} {a b c : List ℕ} {before_it : List Attribute} (x : Attribute) → Attributes names a before_it b → IsAttribute b x c
    → is_among (names ++ names_of before_it) x.name ≡ false → Attributes names a (before_it ++ x ∷ []) c
attributes_last {names} x no_attribute is new = one_attribute is (subst (λ (ns : List (List ℕ)). is_among ns x.name ≡ false) (append-nil names) new) no_attribute
attributes_last {names} x (one_attribute {a = y} {others = others} p free q) is new =
    one_attribute p free (attributes_last x q is (subst (λ (ns : List (List ℕ)). is_among ns x.name ≡ false) (sym (append_assoc names (y.name ∷ []) (names_of others))) new))

pub content_join : {level : ℕ} {a b c v w : List ℕ} {ts us : Trees} → Content level a ts v b → Content level b us w c → Content level a (joined ts us) (v ++ w) c
content_join no_content q = q
content_join {w = w} (data_unit {piece = piece} {text = text} read p is) q =
    data_unit read (content_join p q) (ap (λ (v : List ℕ). v ++ w) is ∙ append_assoc piece text w)
content_join (note_inside e p) q = note_inside e (content_join p q)
content_join (child e p) q = child e (content_join p q)

joined_none : (ts : Trees) → joined ts none ≡ ts
joined_none none = refl
joined_none (more t ts) = ap (more t) (joined_none ts)

joined_one : (ts : Trees) (t : Tree) → joined ts (more t none) ≡ with_last ts t
joined_one none t = refl
joined_one (more s ts) t = ap (more s) (joined_one ts t)

-- ---- what a step says

chosen : {A : Type 0} (b : Bool) (x y z : A) → cond b x y ≡ z → ((b ≡ true) × (x ≡ z)) ⊎ ((b ≡ false) × (y ≡ z))
chosen true x y z e = inl (refl, e)
chosen false x y z e = inr (refl, e)

onward_go : {A : Type 0} (read : Read A) (f : A → Next) (t : Spot) (b : List ℕ) → onward read f ≡ go t b → (x : A) × (read ≡ Ok x) × (f x ≡ go t b)
onward_go (Ok x) f t b e = (x, refl, e)
onward_go (Err fault) f t b e = absurd cc

stop_go : (fault : Fault) (t : Spot) (b : List ℕ) → stop fault ≡ go t b → ⊥
stop_go fault t b e = cc

done_go : (x : Tree) (t : Spot) (b : List ℕ) → done x ≡ go t b → ⊥
done_go x t b e = cc

go_spot : (s t : Spot) (a b : List ℕ) → go s a ≡ go t b → s ≡ t
go_spot s t a b e = cc

go_rest : (s t : Spot) (a b : List ℕ) → go s a ≡ go t b → a ≡ b
go_rest s t a b e = cc

read_ok : {A : Type 0} → A → Read A
read_ok x = Ok x

bind_ok : {A B : Type 0} (r : Read A) (f : A → Read B) (y : B) → (r >>= f) ≡ Ok y → (x : A) × (r ≡ Ok x) × (f x ≡ Ok y)
bind_ok (Ok x) f y e = (x, refl, e)
bind_ok (Err d) f y e = absurd cc

abbrev ok_of : {A : Type 0} → A → Read A
ok_of x = Ok x

ok_is : {A : Type 0} (x y : A) → ok_of x ≡ ok_of y → x ≡ y
ok_is x y e = cc

err_ok : {A : Type 0} (fault : Fault) (x : A) → ◌≡◌ {A = Read A} (Err fault) (Ok x) → ⊥
err_ok fault x e = cc

-- what follows one byte
one_byte : (c : ℕ) (bytes rest : List ℕ) → expect (c ∷ []) bytes ≡ Ok rest → bytes ≡ c ∷ rest
one_byte c [] rest e = absurd (err_ok _ _ e)
one_byte c (d ∷ bytes) rest e =
    elim (chosen (eqb d c) (ok_of bytes) (Err (Syntax, length (d ∷ bytes))) (ok_of rest) e) [
      | inl p ↦ ap (λ (x : ℕ). x ∷ bytes) (eqb-true d c p.0) ∙ ap (λ (l : List ℕ). c ∷ l) (ok_is bytes rest p.1)
      | inr p ↦ absurd (err_ok _ _ p.1)
    ]

abbrev turn_ok : TagTurn → List ℕ → Read (TagTurn × List ℕ)
turn_ok turn rest = Ok (turn, rest)

-- what a turn in a tag says of the bytes behind white space
abbrev TurnSays : List (List ℕ) → Bool → List ℕ → TagTurn × List ℕ → Type 0
TurnSays names bare w (attribute name quote, after) =
    (bare ≡ false) × (has_name w ≡ true) × (name ≡ name_at w) × (is_among names name ≡ false) × (quote_at (past name_byte w) ≡ Ok (quote, after))
TurnSays names bare w (opens, after) = w ≡ 62 ∷ after
TurnSays names bare w (closes, after) = w ≡ 47 ∷ 62 ∷ after

attribute_says : (names : List (List ℕ)) (w : List ℕ) (found : TagTurn × List ℕ) → attribute_at names w ≡ Ok found → TurnSays names false w found
unfolding attribute_at
attribute_says names w found e =
    let quoted = quote_at (past name_byte w) >>= λ q. turn_ok (attribute (name_at w) q.0) q.1 in
    elim (chosen (has_name w) (cond (is_among names (name_at w)) (Err (AttributeTwice, length w)) quoted) (Err (Syntax, length w)) (ok_of found) e) [
      | inl n ↦ elim (chosen (is_among names (name_at w)) (Err (AttributeTwice, length w)) quoted (ok_of found) n.1) [
        | inl twice ↦ absurd (err_ok _ _ twice.1)
        | inr new ↦
            let x = bind_ok (quote_at (past name_byte w)) (λ q. turn_ok (attribute (name_at w) q.0) q.1) found new.1 in
            subst (TurnSays names false w) (ok_is (attribute (name_at w) x.0.0, x.0.1) found x.2) (refl, n.0, refl, new.0, x.1)
      ]
      | inr n ↦ absurd (err_ok _ _ n.1)
    ]

turn_says : (names : List (List ℕ)) (bare : Bool) (w : List ℕ) (found : TagTurn × List ℕ) → turn_at names bare w ≡ Ok found → TurnSays names bare w found
turn_says names bare [] found e = absurd (err_ok _ _ e)
turn_says names bare (c ∷ cs) found e =
    let closing = expect (62 ∷ []) cs >>= λ rest. turn_ok closes rest in
    let others = cond bare (Err (Syntax, length (c ∷ cs))) (attribute_at names (c ∷ cs)) in
    elim (chosen (eqb c 62) (turn_ok opens cs) (cond (eqb c 47) closing others) (ok_of found) e) [
      | inl p ↦ subst (TurnSays names bare (c ∷ cs)) (ok_is (opens, cs) found p.1) (ap (λ (x : ℕ). x ∷ cs) (eqb-true c 62 p.0))
      | inr p ↦ elim (chosen (eqb c 47) closing others (ok_of found) p.1) [
        | inl q ↦
            let x = bind_ok (expect (62 ∷ []) cs) (λ rest. turn_ok closes rest) found q.1 in
            subst (TurnSays names bare (c ∷ cs)) (ok_is (closes, x.0) found x.2) (ap (λ (y : ℕ). y ∷ cs) (eqb-true c 47 q.0) ∙ ap (λ (l : List ℕ). 47 ∷ l) (one_byte 62 cs x.0 x.1))
        | inr q ↦ elim (chosen bare (Err (Syntax, length (c ∷ cs))) (attribute_at names (c ∷ cs)) (ok_of found) q.1) [
          | inl r ↦ absurd (err_ok _ _ r.1)
          | inr r ↦ subst (λ (b : Bool). TurnSays names b (c ∷ cs) found) (sym r.0) (attribute_says names (c ∷ cs) found r.1)
        ]
      ]
    ]

-- ---- where reading stands, in the words of the grammar

module _ (whole : List ℕ) where
  abbrev pub Holds : Spot → List ℕ → Type 0
  Holds start rest = rest ≡ whole
  Holds before rest = Stands whole [] rest
  Holds (inside o around) rest = Stands whole (o ∷ around) rest
  Holds (in_tag name attributes around) rest = InTag whole name attributes around rest
  Holds (in_value name attributes of quote value around) rest = InValue whole name attributes of quote value around rest
  Holds (behind t) rest = IsBehind whole t rest

  lands : (s t : Spot) (a b : List ℕ) → go s a ≡ go t b → Holds s a → Holds t b
  lands s t a b e h = subst (λ (x : Spot). Holds x b) (go_spot s t a b e) (subst (Holds s) (go_rest s t a b e) h)

  more_misc : {a b : List ℕ} → Stands whole [] a → Misc a b → Stands whole [] b
  more_misc (outside is p) q = outside is (misc_join p q)

  more_content : {o : OpenTree} {around : List OpenTree} {a b text : List ℕ} {children : Trees} → Stands whole (o ∷ around) a → Content (suc (suc (length around))) a children text b
      → Stands whole (record { name = o.name; attributes = o.attributes; children = joined o.children children; text = o.text ++ text } ∷ around) b
  more_content (within p shallow is opens_here inner) q = within p shallow is opens_here (content_join inner q)

  -- an element is behind us
  place_holds : (t : Tree) (around : List OpenTree) (a b : List ℕ) → Stands whole around a → Element (suc (length around)) a t b → Holds (placed t around) b
  place_holds t [] a b p e = record { root = a; end = b; stands = p; element = e; after = nothing }
  place_holds t (o ∷ around) a b p e =
      subst (λ (x : OpenTree). Stands whole (x ∷ around) b) (ap (λ (ts : Trees). record { name = o.name; attributes = o.attributes; children = ts; text = o.text ++ [] }) (joined_one o.children t)
      ∙ ap (λ (l : List ℕ). record { name = o.name; attributes = o.attributes; children = with_last o.children t; text = l }) (append-nil o.text))
      (more_content p (child e no_content))

  text_holds : (o : OpenTree) (around : List OpenTree) (a b piece : List ℕ) → Stands whole (o ∷ around) a → unit_at false a ≡ Ok (piece, b) → Stands whole (with_text o piece ∷ around) b
  text_holds o around a b piece p read =
      subst (λ (x : OpenTree). Stands whole (x ∷ around) b)
      (ap (λ (ts : Trees). record { name = o.name; attributes = o.attributes; children = ts; text = o.text ++ (piece ++ []) }) (joined_none o.children)
      ∙ ap (λ (l : List ℕ). with_text o l) (append-nil piece))
      (more_content p (data_unit read no_content refl))

  apart_holds : (o : OpenTree) (around : List OpenTree) (a b : List ℕ) → Stands whole (o ∷ around) (60 ∷ a) → aside a ≡ Ok (Some b) → Stands whole (o ∷ around) b
  apart_holds o around a b p is =
      subst (λ (x : OpenTree). Stands whole (x ∷ around) b)
      (ap (λ (ts : Trees). record { name = o.name; attributes = o.attributes; children = ts; text = o.text ++ [] }) (joined_none o.children)
      ∙ ap (λ (l : List ℕ). record { name = o.name; attributes = o.attributes; children = o.children; text = l }) (append-nil o.text))
      (more_content p (note_inside is no_content))

  -- ---- one step

  start_holds : (a : List ℕ) (t : Spot) (b : List ℕ) → a ≡ whole → next start a ≡ go t b → Holds t b
  start_holds a t b h e =
      let o = onward_go (begin a) (λ rest. go before rest) t b e in
      lands before t o.0 b o.2 (outside (ap begin (sym h) ∙ o.1) nothing)

  root_holds : (a : List ℕ) (found : Option (List ℕ)) (t : Spot) (b : List ℕ) → Stands whole [] (60 ∷ a) → aside a ≡ Ok found → root_step a found ≡ go t b → Holds t b
  root_holds a (Some rest) t b h is e = lands before t rest b e (more_misc h (note is nothing))
  root_holds a None t b h is e =
      elim (chosen (has_name a) (go (in_tag (name_at a) [] []) (past name_byte a)) (stop (Syntax, length a)) (go t b) e) [
        | inl p ↦ lands (in_tag (name_at a) [] []) t (past name_byte a) b p.1 (record { tag = a; stands = h; shallow = omega arith; start_is = record { named = p.0; name_is = refl; attributes_are = no_attribute } })
        | inr p ↦ absurd (stop_go _ t b p.1)
      ]

  before_holds : (a : List ℕ) (t : Spot) (b : List ℕ) → Stands whole [] a → before_step a ≡ go t b → Holds t b
  unfolding before_step
  before_holds [] t b h e = absurd (stop_go _ t b e)
  before_holds (c ∷ cs) t b h e =
      elim (chosen (white c) (go before cs) (cond (eqb c 60) (onward (aside cs) (root_step cs)) (stop (Syntax, length (c ∷ cs)))) (go t b) e) [
        | inl p ↦ lands before t cs b p.1 (more_misc h (space p.0 nothing))
        | inr p ↦ elim (chosen (eqb c 60) (onward (aside cs) (root_step cs)) (stop (Syntax, length (c ∷ cs))) (go t b) p.1) [
          | inl q ↦
              let o = onward_go (aside cs) (root_step cs) t b q.1 in
              root_holds cs o.0 t b (subst (λ (x : ℕ). Stands whole [] (x ∷ cs)) (eqb-true c 60 q.0) h) o.1 o.2
          | inr q ↦ absurd (stop_go _ t b q.1)
        ]
      ]

  end_holds : (o : OpenTree) (around : List OpenTree) (a : List ℕ) (left : ℕ) (t : Spot) (b : List ℕ) → Stands whole (o ∷ around) (60 ∷ 47 ∷ a)
      → onward (end_at o.name left a) (λ rest. go (placed (finished o) around) rest) ≡ go t b → Holds t b
  unfolding end_at
  end_holds o around a left t b (within {b = tag} p shallow is opens_here inner) e =
      let x = onward_go (end_at o.name left a) (λ rest. go (placed (finished o) around) rest) t b e in
      let rest = x.0 in
      let named = chosen (has_name a) (cond (bytes_eq (name_at a) o.name) (expect (62 ∷ []) (past white (past name_byte a))) (Err (TagMismatch, left))) (Err (Syntax, length a)) (ok_of rest) x.1 in
      elim named [
        | inl n ↦ elim (chosen (bytes_eq (name_at a) o.name) (expect (62 ∷ []) (past white (past name_byte a))) (Err (TagMismatch, left)) (ok_of rest) n.1) [
          | inl m ↦
              let end_is : IsEnd a o.name rest = record { named = n.0; name_is = (bytes_decides (name_at a) o.name).0 m.0; ended = one_byte 62 (past white (past name_byte a)) rest m.1 } in
              lands (placed (finished o) around) t rest b x.2 (place_holds (finished o) around (60 ∷ tag) rest p (full shallow is opens_here inner end_is))
          | inr m ↦ absurd (err_ok _ _ m.1)
        ]
        | inr n ↦ absurd (err_ok _ _ n.1)
      ]

  markup_holds : (o : OpenTree) (around : List OpenTree) (a : List ℕ) (t : Spot) (b : List ℕ) → Stands whole (o ∷ around) (60 ∷ a) → markup_step o around a ≡ go t b → Holds t b
  markup_holds o around [] t b h e = absurd (stop_go _ t b e)
  markup_holds o around (c ∷ cs) t b h e =
      let named_go = go (in_tag (name_at (c ∷ cs)) [] (o ∷ around)) (past name_byte (c ∷ cs)) in
      let if_named = cond (has_name (c ∷ cs)) (cond (nat_lt (length around) 63) named_go (stop (TooDeep, length (60 ∷ c ∷ cs)))) (stop (Syntax, length (c ∷ cs))) in
      let end_go = onward (end_at o.name (length (60 ∷ c ∷ cs)) cs) (λ rest. go (placed (finished o) around) rest) in
      elim (chosen (eqb c 47) end_go if_named (go t b) e) [
        | inl p ↦ end_holds o around cs (length (60 ∷ c ∷ cs)) t b (subst (λ (x : ℕ). Stands whole (o ∷ around) (60 ∷ x ∷ cs)) (eqb-true c 47 p.0) h) p.1
        | inr p ↦ elim (chosen (has_name (c ∷ cs)) (cond (nat_lt (length around) 63) named_go (stop (TooDeep, length (60 ∷ c ∷ cs)))) (stop (Syntax, length (c ∷ cs))) (go t b) p.1) [
          | inl q ↦ elim (chosen (nat_lt (length around) 63) named_go (stop (TooDeep, length (60 ∷ c ∷ cs))) (go t b) q.1) [
            | inl r ↦ lands (in_tag (name_at (c ∷ cs)) [] (o ∷ around)) t (past name_byte (c ∷ cs)) b r.1 (record { tag = c ∷ cs; stands = h; shallow = omega (arith, ltb-true (length around) 63 r.0); start_is = record { named = q.0; name_is = refl; attributes_are = no_attribute } })
            | inr r ↦ absurd (stop_go _ t b r.1)
          ]
          | inr q ↦ absurd (stop_go _ t b q.1)
        ]
      ]

  inside_apart_holds : (o : OpenTree) (around : List OpenTree) (a : List ℕ) (found : Option (List ℕ)) (t : Spot) (b : List ℕ) → Stands whole (o ∷ around) (60 ∷ a) → aside a ≡ Ok found → apart_step o around a found ≡ go t b → Holds t b
  inside_apart_holds o around a (Some rest) t b h is e = lands (inside o around) t rest b e (apart_holds o around a rest h is)
  inside_apart_holds o around a None t b h is e = markup_holds o around a t b h e

  inside_holds : (o : OpenTree) (around : List OpenTree) (a : List ℕ) (t : Spot) (b : List ℕ) → Stands whole (o ∷ around) a → inside_step o around a ≡ go t b → Holds t b
  unfolding inside_step
  inside_holds o around [] t b h e = absurd (stop_go _ t b e)
  inside_holds o around (c ∷ cs) t b h e =
      let unit_go = onward (unit_at false (c ∷ cs)) (λ found. go (inside (with_text o found.0) around) found.1) in
      elim (chosen (eqb c 60) (onward (aside cs) (apart_step o around cs)) unit_go (go t b) e) [
        | inl p ↦
            let x = onward_go (aside cs) (apart_step o around cs) t b p.1 in
            inside_apart_holds o around cs x.0 t b (subst (λ (y : ℕ). Stands whole (o ∷ around) (y ∷ cs)) (eqb-true c 60 p.0) h) x.1 x.2
        | inr p ↦
            let x = onward_go (unit_at false (c ∷ cs)) (λ found. go (inside (with_text o found.0) around) found.1) t b p.1 in
            lands (inside (with_text o x.0.0) around) t x.0.1 b x.2 (text_holds o around (c ∷ cs) x.0.1 x.0.0 h x.1)
      ]

  turned_holds : (name : List ℕ) (attributes : List Attribute) (around : List OpenTree) (a : List ℕ) (found : TagTurn × List ℕ) (t : Spot) (b : List ℕ) → InTag whole name attributes around a
      → TurnSays (names_of attributes) (length (past white a) == length a) (past white a) found → turned name attributes around found ≡ go t b → Holds t b
  turned_holds name attributes around a (attribute of quote, after) t b h says e =
      lands (in_value name attributes of quote [] around) t after b e (record { from = a; in_tag_there = h; spaced = says.0; named = says.1; of_is = says.2; new = says.3; within_quotes = after; quoted = says.4; so_far = no_unit })
  turned_holds name attributes around a (opens, after) t b h says e =
      lands (inside (opened name attributes) around) t after b e (within h.stands h.shallow h.start_is says no_content)
  turned_holds name attributes around a (closes, after) t b h says e =
      lands (placed (tree name attributes none []) around) t after b e (place_holds (tree name attributes none []) around (60 ∷ h.tag) after h.stands (empty h.shallow h.start_is says))

  tag_holds : (name : List ℕ) (attributes : List Attribute) (around : List OpenTree) (a : List ℕ) (t : Spot) (b : List ℕ) → InTag whole name attributes around a → tag_step name attributes around a ≡ go t b → Holds t b
  unfolding tag_step
  tag_holds name attributes around a t b h e =
      let x = onward_go (tag_turn (names_of attributes) a) (turned name attributes around) t b e in
      turned_holds name attributes around a x.0 t b h (turn_says (names_of attributes) (length (past white a) == length a) (past white a) x.0 x.1) x.2

  value_ended : (name : List ℕ) (attributes : List Attribute) (of : List ℕ) (quote : ℕ) (value : List ℕ) (around : List OpenTree) (rest : List ℕ) → InValue whole name attributes of quote value around (quote ∷ rest)
      → InTag whole name (attributes ++ record { name = of; value = value } ∷ []) around rest
  value_ended name attributes of quote value around rest h =
      let whole_one : IsAttribute h.from (record { name = of; value = value }) rest =
      record { spaced = h.spaced; named = h.named; name = h.of_is; quote = quote; inside = h.within_quotes; opened = h.quoted; value = h.so_far } in
      record {
        tag = h.in_tag_there.tag;
        stands = h.in_tag_there.stands;
        shallow = h.in_tag_there.shallow;
        start_is = record { named = h.in_tag_there.start_is.named; name_is = h.in_tag_there.start_is.name_is; attributes_are = attributes_last (record { name = of; value = value }) h.in_tag_there.start_is.attributes_are whole_one h.new };
      }

  value_more : (name : List ℕ) (attributes : List Attribute) (of : List ℕ) (quote : ℕ) (value : List ℕ) (around : List OpenTree) (c : ℕ) (cs piece rest : List ℕ) → InValue whole name attributes of quote value around (c ∷ cs)
      → (c == quote) ≡ false → unit_at true (c ∷ cs) ≡ Ok (piece, rest) → InValue whole name attributes of quote (value ++ piece) around rest
  value_more name attributes of quote value around c cs piece rest h other read =
      record {
        from = h.from;
        in_tag_there = h.in_tag_there;
        spaced = h.spaced;
        named = h.named;
        of_is = h.of_is;
        new = h.new;
        within_quotes = h.within_quotes;
        quoted = h.quoted;
        so_far = subst (λ (l : List ℕ). Units quote h.within_quotes (value ++ l) rest) (append-nil piece) (units_join h.so_far (one_unit other read no_unit refl));
      }

  value_holds : (name : List ℕ) (attributes : List Attribute) (of : List ℕ) (quote : ℕ) (value : List ℕ) (around : List OpenTree) (a : List ℕ) (t : Spot) (b : List ℕ) → InValue whole name attributes of quote value around a
      → value_step name attributes of quote value around a ≡ go t b → Holds t b
  unfolding value_step
  value_holds name attributes of quote value around [] t b h e = absurd (stop_go _ t b e)
  value_holds name attributes of quote value around (c ∷ cs) t b h e =
      let ended = go (in_tag name (attributes ++ record { name = of; value = value } ∷ []) around) cs in
      let unit_go = onward (unit_at true (c ∷ cs)) (λ found. go (in_value name attributes of quote (value ++ found.0) around) found.1) in
      elim (chosen (eqb c quote) ended unit_go (go t b) e) [
        | inl p ↦ lands (in_tag name (attributes ++ record { name = of; value = value } ∷ []) around) t cs b p.1
            (value_ended name attributes of quote value around cs (subst (λ (x : ℕ). InValue whole name attributes of quote value around (x ∷ cs)) (eqb-true c quote p.0) h))
        | inr p ↦
            let x = onward_go (unit_at true (c ∷ cs)) (λ found. go (in_value name attributes of quote (value ++ found.0) around) found.1) t b p.1 in
            lands (in_value name attributes of quote (value ++ x.0.0) around) t x.0.1 b x.2 (value_more name attributes of quote value around c cs x.0.0 x.0.1 h p.0 x.1)
      ]

  more_behind : {u : Tree} {a b : List ℕ} → IsBehind whole u a → Misc a b → IsBehind whole u b
  more_behind h p = record { root = h.root; end = h.end; stands = h.stands; element = h.element; after = misc_join h.after p }

  behind_apart_holds : (u : Tree) (a : List ℕ) (found : Option (List ℕ)) (t : Spot) (b : List ℕ) → IsBehind whole u (60 ∷ a) → aside a ≡ Ok found → behind_apart u a found ≡ go t b → Holds t b
  behind_apart_holds u a (Some rest) t b h is e = lands (behind u) t rest b e (more_behind h (note is nothing))
  behind_apart_holds u a None t b h is e = absurd (stop_go _ t b e)

  behind_holds : (u : Tree) (a : List ℕ) (t : Spot) (b : List ℕ) → IsBehind whole u a → behind_step u a ≡ go t b → Holds t b
  unfolding behind_step
  behind_holds u [] t b h e = absurd (done_go u t b e)
  behind_holds u (c ∷ cs) t b h e =
      elim (chosen (white c) (go (behind u) cs) (cond (eqb c 60) (onward (aside cs) (behind_apart u cs)) (stop (Syntax, length (c ∷ cs)))) (go t b) e) [
        | inl p ↦ lands (behind u) t cs b p.1 (more_behind h (space p.0 nothing))
        | inr p ↦ elim (chosen (eqb c 60) (onward (aside cs) (behind_apart u cs)) (stop (Syntax, length (c ∷ cs))) (go t b) p.1) [
          | inl q ↦
              let x = onward_go (aside cs) (behind_apart u cs) t b q.1 in
              behind_apart_holds u cs x.0 t b (subst (λ (y : ℕ). IsBehind whole u (y ∷ cs)) (eqb-true c 60 q.0) h) x.1 x.2
          | inr q ↦ absurd (stop_go _ t b q.1)
        ]
      ]

  one_holds : (s : Spot) (a : List ℕ) (t : Spot) (b : List ℕ) → Holds s a → next s a ≡ go t b → Holds t b
  one_holds start a t b h e = start_holds a t b h e
  one_holds before a t b h e = before_holds a t b h e
  one_holds (inside o around) a t b h e = inside_holds o around a t b h e
  one_holds (in_tag name attributes around) a t b h e = tag_holds name attributes around a t b h e
  one_holds (in_value name attributes of quote value around) a t b h e = value_holds name attributes of quote value around a t b h e
  one_holds (behind u) a t b h e = behind_holds u a t b h e

  pub steps_hold : {s t : Spot} {a b : List ℕ} → Holds s a → Reads s a t b → Holds t b
  steps_hold h here = h
  steps_hold h (step {s = s} {t = t} {bytes = a} {after = after} e p) = steps_hold (one_holds s a t after h e) p

-- what was read to the end is spelled
pub read_spells : (bytes : List ℕ) (t : Tree) → length bytes ≤ 4194304 → IsUtf8 bytes → Reads start bytes (behind t) [] → SpellsTree bytes t
read_spells bytes t short utf8 p = spelled (steps_hold bytes {s = start} refl p)
  where
    spelled_from : (root end : List ℕ) → Stands bytes [] root → Element 1 root t end → Misc end [] → SpellsTree bytes t
    spelled_from root end (outside {b = b} begun before_root) e after =
        record { short = short; utf8 = utf8; start = b; begun = begun; root = root; before = before_root; end = end; element = e; after = after }

    spelled : IsBehind bytes t [] → SpellsTree bytes t
    spelled h = spelled_from h.root h.end h.stands h.element h.after
