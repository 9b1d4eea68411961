-- Where reading stops, and why.
use Rattle.std.proofs.Common.{◌≡◌, ℕ, ◌-◌, ◌≤◌, Bool, true, false, not, cond, eqb, List, [], ◌∷◌, ◌++◌, length, drop, Option, Some, None, Ok, Err, refl, sym, ap, subst, ◌∙◌, arith, inl, inr, ◌⊎◌}
use Rattle.std.specs.Prelude.{◌==◌, nat_eq, nat_lt, ◌||◌}
use Rattle.std.specs.List.{starts_with}
use Rattle.std.specs.Str.{bytes_eq, IsUtf8}
use Rattle.manifest_tree.specs.declared.fault.TreeError.{TreeError}
use Rattle.manifest_tree.specs.declared.fault.TreeError.TheVariants as errors
use Rattle.std.proofs.lemmas.Bool.{eqb-true, ltb-false}
use Rattle.manifest_tree.specs.declared.fault.Stop.{Stop}
use Rattle.manifest_tree.specs.declared.fault.Stop.TheVariants as stops
use Rattle.manifest_tree.specs.Outcome.{StopsBy}
use Rattle.manifest_tree.specs.declared.fault.TreeKind.{TreeKind}
use Rattle.manifest_tree.specs.declared.fault.TreeKind.TheVariants.{Syntax, Entity, TooDeep, TagMismatch, AttributeTwice}
use Rattle.manifest_tree.specs.declared.node.Attribute.{Attribute}
use Rattle.manifest_tree.specs.Lexis.{Fault, Read, white, allowed, name_byte, past, has_name, name_at, aside, begin, past_mark, past_declaration, past_white_mark, comment, target, instruction, upto, unit_at, referred, reference_at, plain, past_line_feed, quote_in, quote_at, is_among, TagTurn, attribute, opens, closes, tag_turn, turn_at, attribute_at, end_at, expect, ◌>>=◌}
use Rattle.manifest_tree.specs.Tree.{Tree}
use Rattle.manifest_tree.specs.Refusals.{Stands, InTag, InValue, IsFault, entity, entity_in_value, mismatch, twice, deep, IsRefusal, other, syntax, Refuses}
use Rattle.manifest_tree.specs.Spots.{Spot, start, before, inside, in_tag, in_value, behind, Next, go, stop, done, onward, OpenTree, finished, with_text, names_of, placed, next, root_step, before_step, markup_step, apart_step, inside_step, turned, tag_step, value_step, behind_apart, behind_step, Stops}
use Rattle.manifest_tree.proofs.Flat.{one_fault}
use Rattle.manifest_tree.proofs.Fronts.{sticks_lost}
use Rattle.manifest_tree.proofs.Nested.{Holds, steps_hold}
use Rattle.manifest_tree.proofs.StuckReads.{stops_stick}
use Rattle.manifest_tree.proofs.FaultStops.{fault_stops, fault_other}

chosen : {A : Type 0} (b : Bool) (x y z : A) → cond b x y ≡ z → ((b ≡ true) × (x ≡ z)) ⊎ ((b ≡ false) × (y ≡ z))
chosen true x y z e = inl (refl, e)
chosen false x y z e = inr (refl, e)

abbrev err_of : {A : Type 0} → Fault → Read A
err_of fault = Err fault

abbrev ok_of : {A : Type 0} → A → Read A
ok_of x = Ok x

abbrev unit_ok : List ℕ → List ℕ → Read (List ℕ × List ℕ)
unit_ok piece rest = Ok (piece, rest)

abbrev turn_ok : TagTurn → List ℕ → Read (TagTurn × List ℕ)
turn_ok turn rest = Ok (turn, rest)

abbrev quote_ok : ℕ → List ℕ → Read (ℕ × List ℕ)
quote_ok c rest = Ok (c, rest)

err_is : {A : Type 0} (f g : Fault) → err_of {A = A} f ≡ err_of {A = A} g → f ≡ g
err_is f g e = cc

ok_err : {A : Type 0} (x : A) (g : Fault) → ok_of x ≡ err_of g → ⊥
ok_err x g e = cc

stop_is : (f g : Fault) → stop f ≡ stop g → f ≡ g
stop_is f g e = cc

go_stop : (s : Spot) (a : List ℕ) (g : Fault) → go s a ≡ stop g → ⊥
go_stop s a g e = cc

done_stop : (t : Tree) (g : Fault) → done t ≡ stop g → ⊥
done_stop t g e = cc

onward_stop : {A : Type 0} (read : Read A) (f : A → Next) (fault : Fault) → onward read f ≡ stop fault → (read ≡ Err fault) ⊎ ((x : A) × (read ≡ Ok x) × (f x ≡ stop fault))
onward_stop (Ok x) f fault e = inr (x, refl, e)
onward_stop {A} (Err bad) f fault e = inl (ap (err_of {A = A}) (stop_is bad fault e))

bind_err : {A B : Type 0} (r : Read A) (f : A → Read B) (fault : Fault) → (r >>= f) ≡ Err fault → (r ≡ Err fault) ⊎ ((x : A) × (r ≡ Ok x) × (f x ≡ Err fault))
bind_err (Ok x) f fault e = inr (x, refl, e)
bind_err {A} {B} (Err bad) f fault e = inl (ap (err_of {A = A}) (err_is {A = B} bad fault e))

-- ---- parts whose faults are of form

abbrev IsForm : {A : Type 0} → Read A → Type 0
IsForm read = (fault : Fault) → read ≡ Err fault → fault.0 ≡ Syntax

at_once : {A : Type 0} (left : ℕ) (fault : Fault) → err_of {A = A} (Syntax, left) ≡ Err fault → fault.0 ≡ Syntax
at_once {A} left fault e = sym (ap (λ (f : Fault). f.0) (err_is {A = A} (Syntax, left) fault e))

both_form : {A : Type 0} (b : Bool) (x y : Read A) → IsForm x → IsForm y → IsForm (cond b x y)
both_form true x y p q = p
both_form false x y p q = q

ok_form : {A : Type 0} (x : A) → IsForm (ok_of x)
ok_form x fault e = absurd (ok_err x fault e)

bind_form : {A B : Type 0} (r : Read A) (f : A → Read B) → IsForm r → ((x : A) → IsForm (f x)) → IsForm (r >>= f)
bind_form (Ok x) f p q = q x
bind_form {A} {B} (Err bad) f p q = λ fault e. p fault (ap (err_of {A = A}) (err_is {A = B} bad fault e))

expect_form : (mark bytes : List ℕ) → IsForm (expect mark bytes)
expect_form [] bytes = ok_form bytes
expect_form (m ∷ ms) [] = at_once 0
expect_form (m ∷ ms) (c ∷ cs) = both_form (eqb c m) (expect ms cs) (Err (Syntax, length (c ∷ cs))) (expect_form ms cs) (at_once (length (c ∷ cs)))

upto_form : (mark bytes : List ℕ) → IsForm (upto mark bytes)
upto_form mark [] = at_once 0
upto_form mark (c ∷ cs) =
    both_form (starts_with nat_eq (c ∷ cs) mark) (Ok (drop (length mark) (c ∷ cs))) (cond (allowed c) (upto mark cs) (Err (Syntax, length (c ∷ cs)))) (ok_form (drop (length mark) (c ∷ cs)))
    (both_form (allowed c) (upto mark cs) (Err (Syntax, length (c ∷ cs))) (upto_form mark cs) (at_once (length (c ∷ cs))))

comment_form : (bytes : List ℕ) → IsForm (comment bytes)
unfolding comment
comment_form bytes = bind_form (expect (33 ∷ 45 ∷ 45 ∷ []) bytes) (upto (45 ∷ 45 ∷ 62 ∷ [])) (expect_form (33 ∷ 45 ∷ 45 ∷ []) bytes) (upto_form (45 ∷ 45 ∷ 62 ∷ []))

target_form : (bytes : List ℕ) → IsForm (target bytes)
unfolding target
target_form bytes =
    both_form (has_name bytes) (cond (bytes_eq (name_at bytes) (120 ∷ 109 ∷ 108 ∷ [])) (Err (Syntax, length (past name_byte bytes))) (Ok (past name_byte bytes))) (Err (Syntax, length bytes))
    (both_form (bytes_eq (name_at bytes) (120 ∷ 109 ∷ 108 ∷ [])) (Err (Syntax, length (past name_byte bytes))) (Ok (past name_byte bytes)) (at_once (length (past name_byte bytes))) (ok_form (past name_byte bytes)))
    (at_once (length bytes))

instruction_form : (bytes : List ℕ) → IsForm (instruction bytes)
unfolding instruction
instruction_form bytes =
    bind_form (expect (63 ∷ []) bytes) (λ rest. target rest >>= upto (63 ∷ 62 ∷ [])) (expect_form (63 ∷ []) bytes)
    (λ rest. bind_form (target rest) (upto (63 ∷ 62 ∷ [])) (target_form rest) (upto_form (63 ∷ 62 ∷ [])))

abbrev some_rest : List ℕ → Read (Option (List ℕ))
some_rest rest = Ok (Some rest)

abbrev no_rest : Read (Option (List ℕ))
no_rest = Ok None

aside_form : (bytes : List ℕ) → IsForm (aside bytes)
aside_form [] = ok_form None
aside_form (c ∷ cs) =
    both_form (eqb c 33) (comment (c ∷ cs) >>= some_rest) (cond (eqb c 63) (instruction (c ∷ cs) >>= some_rest) no_rest)
    (bind_form (comment (c ∷ cs)) some_rest (comment_form (c ∷ cs)) (λ rest. ok_form (Some rest)))
    (both_form (eqb c 63) (instruction (c ∷ cs) >>= some_rest) no_rest (bind_form (instruction (c ∷ cs)) some_rest (instruction_form (c ∷ cs)) (λ rest. ok_form (Some rest))) (ok_form None))

past_mark_form : (bytes : List ℕ) → IsForm (past_mark bytes)
past_mark_form [] = ok_form []
past_mark_form (c ∷ cs) = both_form (eqb c 239) (expect (187 ∷ 191 ∷ []) cs) (Ok (c ∷ cs)) (expect_form (187 ∷ 191 ∷ []) cs) (ok_form (c ∷ cs))

white_mark_form : (bytes rest : List ℕ) → IsForm (past_white_mark bytes rest)
white_mark_form bytes [] = ok_form bytes
white_mark_form bytes (c ∷ cs) = both_form (white c) (upto (63 ∷ 62 ∷ []) cs) (Ok bytes) (upto_form (63 ∷ 62 ∷ []) cs) (ok_form bytes)

declaration_form : (bytes : List ℕ) → IsForm (past_declaration bytes)
unfolding past_declaration
declaration_form bytes =
    both_form (starts_with nat_eq bytes (60 ∷ 63 ∷ 120 ∷ 109 ∷ 108 ∷ [])) (past_white_mark bytes (drop 5 bytes)) (Ok bytes) (white_mark_form bytes (drop 5 bytes)) (ok_form bytes)

begin_form : (bytes : List ℕ) → IsForm (begin bytes)
unfolding begin
begin_form bytes = bind_form (past_mark bytes) past_declaration (past_mark_form bytes) declaration_form

quote_in_form : (bytes : List ℕ) → IsForm (quote_in bytes)
quote_in_form [] = at_once 0
quote_in_form (c ∷ cs) = both_form (eqb c 34 || eqb c 39) (quote_ok c cs) (Err (Syntax, length (c ∷ cs))) (ok_form (c, cs)) (at_once (length (c ∷ cs)))

quote_form : (bytes : List ℕ) → IsForm (quote_at bytes)
unfolding quote_at
quote_form bytes =
    bind_form (expect (61 ∷ []) (past white bytes)) (λ rest. quote_in (past white rest)) (expect_form (61 ∷ []) (past white bytes)) (λ rest. quote_in_form (past white rest))

-- ---- what stops a step

module _ (whole : List ℕ) where
  -- a fault of form, or one that stands here
  abbrev Says : Fault → Type 0
  Says fault = (fault.0 ≡ Syntax) ⊎ ((rest : List ℕ) × IsFault whole fault.0 rest × (fault.1 ≡ length rest))

  form_says : {A : Type 0} (read : Read A) (fault : Fault) → IsForm read → read ≡ Err fault → Says fault
  form_says read fault form e = inl (form fault e)

  here_says : (kind : TreeKind) (rest : List ℕ) (fault : Fault) → IsFault whole kind rest → (kind, length rest) ≡ fault → Says fault
  here_says kind rest fault is e = subst Says e (inr (rest, is, refl))

  syntax_says : (left : ℕ) (fault : Fault) → (Syntax, left) ≡ fault → Says fault
  syntax_says left fault e = inl (sym (ap (λ (f : Fault). f.0) e))

  -- a unit that fails: an `&`, or a fault of form
  unit_fails : (quoted : Bool) (c : ℕ) (cs : List ℕ) (fault : Fault) → unit_at quoted (c ∷ cs) ≡ Err fault → (fault.0 ≡ Syntax) ⊎ ((c ≡ 38) × (reference_at cs ≡ None) × ((Entity, length (c ∷ cs)) ≡ fault))
  unit_fails quoted c cs fault e =
      let others = cond (eqb c 60 || not (allowed c)) (Err (Syntax, length (c ∷ cs))) (unit_ok (plain quoted c ∷ []) cs) in
      elim (chosen (eqb c 38) (referred (length (c ∷ cs)) (reference_at cs)) (cond (eqb c 13) (unit_ok (plain quoted 10 ∷ []) (past_line_feed cs)) others) (err_of fault) e) [
        | inl p ↦ let q = referred_fails (length (c ∷ cs)) (reference_at cs) fault p.1 in inr (eqb-true c 38 p.0, q.0, q.1)
        | inr p ↦ inl (both_form (eqb c 13) (unit_ok (plain quoted 10 ∷ []) (past_line_feed cs)) others (ok_form (plain quoted 10 ∷ [], past_line_feed cs))
            (both_form (eqb c 60 || not (allowed c)) (Err (Syntax, length (c ∷ cs))) (unit_ok (plain quoted c ∷ []) cs) (at_once (length (c ∷ cs))) (ok_form (plain quoted c ∷ [], cs))) fault p.1)
      ]
    where
      referred_fails : (left : ℕ) (found : Option (ℕ × List ℕ)) (g : Fault) → referred left found ≡ Err g → (found ≡ None) × ((Entity, left) ≡ g)
      referred_fails left None g e = (refl, err_is (Entity, left) g e)
      referred_fails left (Some x) g e = absurd cc

  start_stops : (a : List ℕ) (fault : Fault) → next start a ≡ stop fault → Says fault
  start_stops a fault e =
      elim (onward_stop (begin a) (λ rest. go before rest) fault e) [
        | inl bad ↦ form_says (begin a) fault (begin_form a) bad
        | inr x ↦ absurd (go_stop before x.0 fault x.2)
      ]

  root_stops : (a : List ℕ) (found : Option (List ℕ)) (fault : Fault) → root_step a found ≡ stop fault → Says fault
  root_stops a (Some rest) fault e = absurd (go_stop before rest fault e)
  root_stops a None fault e =
      elim (chosen (has_name a) (go (in_tag (name_at a) [] []) (past name_byte a)) (stop (Syntax, length a)) (stop fault) e) [
        | inl p ↦ absurd (go_stop _ _ fault p.1)
        | inr p ↦ syntax_says (length a) fault (stop_is (Syntax, length a) fault p.1)
      ]

  before_stops : (a : List ℕ) (fault : Fault) → before_step a ≡ stop fault → Says fault
  unfolding before_step
  before_stops [] fault e = syntax_says 0 fault (stop_is (Syntax, 0) fault e)
  before_stops (c ∷ cs) fault e =
      elim (chosen (white c) (go before cs) (cond (eqb c 60) (onward (aside cs) (root_step cs)) (stop (Syntax, length (c ∷ cs)))) (stop fault) e) [
        | inl p ↦ absurd (go_stop before cs fault p.1)
        | inr p ↦ elim (chosen (eqb c 60) (onward (aside cs) (root_step cs)) (stop (Syntax, length (c ∷ cs))) (stop fault) p.1) [
          | inl q ↦ elim (onward_stop (aside cs) (root_step cs) fault q.1) [
            | inl bad ↦ form_says (aside cs) fault (aside_form cs) bad
            | inr x ↦ root_stops cs x.0 fault x.2
          ]
          | inr q ↦ syntax_says (length (c ∷ cs)) fault (stop_is (Syntax, length (c ∷ cs)) fault q.1)
        ]
      ]

  behind_apart_stops : (t : Tree) (a : List ℕ) (found : Option (List ℕ)) (fault : Fault) → behind_apart t a found ≡ stop fault → Says fault
  behind_apart_stops t a (Some rest) fault e = absurd (go_stop (behind t) rest fault e)
  behind_apart_stops t a None fault e = syntax_says (length a) fault (stop_is (Syntax, length a) fault e)

  behind_stops : (t : Tree) (a : List ℕ) (fault : Fault) → behind_step t a ≡ stop fault → Says fault
  unfolding behind_step
  behind_stops t [] fault e = absurd (done_stop t fault e)
  behind_stops t (c ∷ cs) fault e =
      elim (chosen (white c) (go (behind t) cs) (cond (eqb c 60) (onward (aside cs) (behind_apart t cs)) (stop (Syntax, length (c ∷ cs)))) (stop fault) e) [
        | inl p ↦ absurd (go_stop (behind t) cs fault p.1)
        | inr p ↦ elim (chosen (eqb c 60) (onward (aside cs) (behind_apart t cs)) (stop (Syntax, length (c ∷ cs))) (stop fault) p.1) [
          | inl q ↦ elim (onward_stop (aside cs) (behind_apart t cs) fault q.1) [
            | inl bad ↦ form_says (aside cs) fault (aside_form cs) bad
            | inr x ↦ behind_apart_stops t cs x.0 fault x.2
          ]
          | inr q ↦ syntax_says (length (c ∷ cs)) fault (stop_is (Syntax, length (c ∷ cs)) fault q.1)
        ]
      ]

  end_stops : (o : OpenTree) (around : List OpenTree) (a : List ℕ) (fault : Fault) → Stands whole (o ∷ around) (60 ∷ 47 ∷ a) → end_at o.name (length (60 ∷ 47 ∷ a)) a ≡ Err fault → Says fault
  unfolding end_at
  end_stops o around a fault h e =
      let left = length (60 ∷ 47 ∷ a) in
      elim (chosen (has_name a) (cond (bytes_eq (name_at a) o.name) (expect (62 ∷ []) (past white (past name_byte a))) (Err (TagMismatch, left))) (Err (Syntax, length a)) (err_of fault) e) [
        | inl n ↦ elim (chosen (bytes_eq (name_at a) o.name) (expect (62 ∷ []) (past white (past name_byte a))) (Err (TagMismatch, left)) (err_of fault) n.1) [
          | inl m ↦ form_says (expect (62 ∷ []) (past white (past name_byte a))) fault (expect_form (62 ∷ []) (past white (past name_byte a))) m.1
          | inr m ↦ here_says TagMismatch (60 ∷ 47 ∷ a) fault (mismatch h n.0 m.0) (err_is {A = List ℕ} (TagMismatch, left) fault m.1)
        ]
        | inr n ↦ syntax_says (length a) fault (err_is {A = List ℕ} (Syntax, length a) fault n.1)
      ]

  markup_stops : (o : OpenTree) (around : List OpenTree) (a : List ℕ) (fault : Fault) → Stands whole (o ∷ around) (60 ∷ a) → markup_step o around a ≡ stop fault → Says fault
  markup_stops o around [] fault h e = syntax_says 0 fault (stop_is (Syntax, 0) fault e)
  markup_stops o around (c ∷ cs) fault h e =
      let named_go = go (in_tag (name_at (c ∷ cs)) [] (o ∷ around)) (past name_byte (c ∷ cs)) in
      let deep_stop = stop (TooDeep, length (60 ∷ c ∷ cs)) in
      let if_named = cond (has_name (c ∷ cs)) (cond (nat_lt (length around) 63) named_go deep_stop) (stop (Syntax, length (c ∷ cs))) in
      let end_go = onward (end_at o.name (length (60 ∷ c ∷ cs)) cs) (λ rest. go (placed (finished o) around) rest) in
      elim (chosen (eqb c 47) end_go if_named (stop fault) e) [
        | inl p ↦ elim (onward_stop (end_at o.name (length (60 ∷ c ∷ cs)) cs) (λ rest. go (placed (finished o) around) rest) fault p.1) [
          | inl bad ↦ end_stops o around cs fault (subst (λ (x : ℕ). Stands whole (o ∷ around) (60 ∷ x ∷ cs)) (eqb-true c 47 p.0) h) bad
          | inr x ↦ absurd (go_stop _ _ fault x.2)
        ]
        | inr p ↦ elim (chosen (has_name (c ∷ cs)) (cond (nat_lt (length around) 63) named_go deep_stop) (stop (Syntax, length (c ∷ cs))) (stop fault) p.1) [
          | inl q ↦ elim (chosen (nat_lt (length around) 63) named_go deep_stop (stop fault) q.1) [
            | inl r ↦ absurd (go_stop _ _ fault r.1)
            | inr r ↦ here_says TooDeep (60 ∷ c ∷ cs) fault (deep h q.0 (omega (arith, ltb-false (length around) 63 r.0))) (stop_is (TooDeep, length (60 ∷ c ∷ cs)) fault r.1)
          ]
          | inr q ↦ syntax_says (length (c ∷ cs)) fault (stop_is (Syntax, length (c ∷ cs)) fault q.1)
        ]
      ]

  inside_apart_stops : (o : OpenTree) (around : List OpenTree) (a : List ℕ) (found : Option (List ℕ)) (fault : Fault) → Stands whole (o ∷ around) (60 ∷ a) → apart_step o around a found ≡ stop fault → Says fault
  inside_apart_stops o around a (Some rest) fault h e = absurd (go_stop _ _ fault e)
  inside_apart_stops o around a None fault h e = markup_stops o around a fault h e

  inside_stops : (o : OpenTree) (around : List OpenTree) (a : List ℕ) (fault : Fault) → Stands whole (o ∷ around) a → inside_step o around a ≡ stop fault → Says fault
  unfolding inside_step
  inside_stops o around [] fault h e = syntax_says 0 fault (stop_is (Syntax, 0) fault e)
  inside_stops o around (c ∷ cs) fault h e =
      let unit_go = onward (unit_at false (c ∷ cs)) (λ found. go (inside (with_text o found.0) around) found.1) in
      elim (chosen (eqb c 60) (onward (aside cs) (apart_step o around cs)) unit_go (stop fault) e) [
        | inl p ↦ elim (onward_stop (aside cs) (apart_step o around cs) fault p.1) [
          | inl bad ↦ form_says (aside cs) fault (aside_form cs) bad
          | inr x ↦ inside_apart_stops o around cs x.0 fault (subst (λ (y : ℕ). Stands whole (o ∷ around) (y ∷ cs)) (eqb-true c 60 p.0) h) x.2
        ]
        | inr p ↦ elim (onward_stop (unit_at false (c ∷ cs)) (λ found. go (inside (with_text o found.0) around) found.1) fault p.1) [
          | inl bad ↦ elim (unit_fails false c cs fault bad) [
            | inl form ↦ inl form
            | inr x ↦ here_says Entity (38 ∷ cs) fault (entity (subst (λ (y : ℕ). Stands whole (o ∷ around) (y ∷ cs)) x.0 h) x.1) x.2
          ]
          | inr x ↦ absurd (go_stop _ _ fault x.2)
        ]
      ]

  value_stops : (name : List ℕ) (attributes : List Attribute) (of : List ℕ) (quote : ℕ) (value : List ℕ) (around : List OpenTree) (a : List ℕ) (fault : Fault) → InValue whole name attributes of quote value around a
      → value_step name attributes of quote value around a ≡ stop fault → Says fault
  unfolding value_step
  value_stops name attributes of quote value around [] fault h e = syntax_says 0 fault (stop_is (Syntax, 0) fault e)
  value_stops name attributes of quote value around (c ∷ cs) fault h e =
      let ended = go (in_tag name (attributes ++ record { name = of; value = value } ∷ []) around) cs in
      let unit_go = onward (unit_at true (c ∷ cs)) (λ found. go (in_value name attributes of quote (value ++ found.0) around) found.1) in
      elim (chosen (eqb c quote) ended unit_go (stop fault) e) [
        | inl p ↦ absurd (go_stop _ _ fault p.1)
        | inr p ↦ elim (onward_stop (unit_at true (c ∷ cs)) (λ found. go (in_value name attributes of quote (value ++ found.0) around) found.1) fault p.1) [
          | inl bad ↦ elim (unit_fails true c cs fault bad) [
            | inl form ↦ inl form
            | inr x ↦ here_says Entity (38 ∷ cs) fault (entity_in_value (subst (λ (y : ℕ). InValue whole name attributes of quote value around (y ∷ cs)) x.0 h) (subst (λ (y : ℕ). eqb y quote ≡ false) x.0 p.0) x.1) x.2
          ]
          | inr x ↦ absurd (go_stop _ _ fault x.2)
        ]
      ]

  attribute_stops : (name : List ℕ) (attributes : List Attribute) (around : List OpenTree) (a : List ℕ) (fault : Fault) → InTag whole name attributes around a → (length (past white a) == length a) ≡ false
      → attribute_at (names_of attributes) (past white a) ≡ Err fault → Says fault
  unfolding attribute_at
  attribute_stops name attributes around a fault h spaced e =
      let w = past white a in
      let names = names_of attributes in
      let quoted = quote_at (past name_byte w) >>= λ q. turn_ok (attribute (name_at w) q.0) q.1 in
      elim (chosen (has_name w) (cond (is_among names (name_at w)) (Err (AttributeTwice, length w)) quoted) (Err (Syntax, length w)) (err_of fault) e) [
        | inl n ↦ elim (chosen (is_among names (name_at w)) (Err (AttributeTwice, length w)) quoted (err_of fault) n.1) [
          | inl again ↦ here_says AttributeTwice w fault (twice h spaced n.0 again.0) (err_is {A = TagTurn × List ℕ} (AttributeTwice, length w) fault again.1)
          | inr new ↦ form_says quoted fault (bind_form (quote_at (past name_byte w)) (λ q. turn_ok (attribute (name_at w) q.0) q.1) (quote_form (past name_byte w)) (λ q. ok_form (attribute (name_at w) q.0, q.1))) new.1
        ]
        | inr n ↦ syntax_says (length w) fault (err_is {A = TagTurn × List ℕ} (Syntax, length w) fault n.1)
      ]

  turn_stops : (name : List ℕ) (attributes : List Attribute) (around : List OpenTree) (a w : List ℕ) (bare : Bool) (fault : Fault) → InTag whole name attributes around a → past white a ≡ w → (length (past white a) == length a) ≡ bare
      → turn_at (names_of attributes) bare w ≡ Err fault → Says fault
  turn_stops name attributes around a [] bare fault h w_is bare_is e = syntax_says 0 fault (err_is {A = TagTurn × List ℕ} (Syntax, 0) fault e)
  turn_stops name attributes around a (c ∷ cs) bare fault h w_is bare_is e =
      let names = names_of attributes in
      let closing = expect (62 ∷ []) cs >>= λ rest. turn_ok closes rest in
      let others = cond bare (Err (Syntax, length (c ∷ cs))) (attribute_at names (c ∷ cs)) in
      elim (chosen (eqb c 62) (turn_ok opens cs) (cond (eqb c 47) closing others) (err_of fault) e) [
        | inl p ↦ absurd (ok_err (opens, cs) fault p.1)
        | inr p ↦ elim (chosen (eqb c 47) closing others (err_of fault) p.1) [
          | inl q ↦ form_says closing fault (bind_form (expect (62 ∷ []) cs) (λ rest. turn_ok closes rest) (expect_form (62 ∷ []) cs) (λ rest. ok_form (closes, rest))) q.1
          | inr q ↦ elim (chosen bare (Err (Syntax, length (c ∷ cs))) (attribute_at names (c ∷ cs)) (err_of fault) q.1) [
            | inl r ↦ syntax_says (length (c ∷ cs)) fault (err_is {A = TagTurn × List ℕ} (Syntax, length (c ∷ cs)) fault r.1)
            | inr r ↦ attribute_stops name attributes around a fault h (bare_is ∙ r.0) (ap (attribute_at names) w_is ∙ r.1)
          ]
        ]
      ]

  tag_stops : (name : List ℕ) (attributes : List Attribute) (around : List OpenTree) (a : List ℕ) (fault : Fault) → InTag whole name attributes around a → tag_step name attributes around a ≡ stop fault → Says fault
  unfolding tag_step
  tag_stops name attributes around a fault h e =
      elim (onward_stop (tag_turn (names_of attributes) a) (turned name attributes around) fault e) [
        | inl bad ↦ turn_stops name attributes around a (past white a) (length (past white a) == length a) fault h refl refl bad
        | inr x ↦ absurd (turned_goes x.0 x.2)
      ]
    where
      turned_goes : (found : TagTurn × List ℕ) → turned name attributes around found ≡ stop fault → ⊥
      turned_goes (attribute of quote, rest) e = go_stop _ _ fault e
      turned_goes (opens, rest) e = go_stop _ _ fault e
      turned_goes (closes, rest) e = go_stop _ _ fault e

  one_stops : (s : Spot) (a : List ℕ) (fault : Fault) → Holds whole s a → next s a ≡ stop fault → Says fault
  one_stops start a fault h e = start_stops a fault e
  one_stops before a fault h e = before_stops a fault e
  one_stops (inside o around) a fault h e = inside_stops o around a fault h e
  one_stops (in_tag name attributes around) a fault h e = tag_stops name attributes around a fault h e
  one_stops (in_value name attributes of quote value around) a fault h e = value_stops name attributes of quote value around a fault h e
  one_stops (behind t) a fault h e = behind_stops t a fault e

  -- why reading stopped
  pub stops_say : (fault : Fault) → Stops start whole fault → Says fault
  stops_say fault p = one_stops p.spot p.rest fault (steps_hold whole {s = start} refl p.reads) p.stopped

-- ---- the refusal

form_refused : (bytes : List ℕ) (left place : ℕ) → length bytes ≤ 4194304 → IsUtf8 bytes → Stops start bytes (Syntax, left) → place ≡ length bytes - left → IsRefusal bytes Syntax place
form_refused bytes left place short utf8 p place_is =
    syntax short utf8 (sticks_lost bytes left place (stops_stick bytes left p) place_is)
    (λ kind rest fault. absurd (fault_other bytes fault (ap (λ (f : Fault). f.0) (one_fault bytes (kind, length rest) (Syntax, left) (fault_stops bytes fault) p))))

pub refused_at : (bytes : List ℕ) (kind : TreeKind) (left place : ℕ) → length bytes ≤ 4194304 → IsUtf8 bytes → Stops start bytes (kind, left) → place ≡ length bytes - left → IsRefusal bytes kind place
refused_at bytes kind left place short utf8 p place_is =
    elim (stops_say bytes (kind, left) p) [
      | inl form ↦ subst (λ (k : TreeKind). IsRefusal bytes k place) (sym form) (form_refused bytes left place short utf8 (subst (λ (k : TreeKind). Stops start bytes (k, left)) form p) place_is)
      | inr x ↦ other short utf8 x.1 (place_is ∙ ap (λ (n : ℕ). length bytes - n) x.2)
    ]

pub refuses : (bytes : List ℕ) (e : TreeError) (kind : TreeKind) (place : ℕ) → e ≡ errors.Refused (record { kind = kind; place = place }) → IsRefusal bytes kind place → Refuses bytes e
refuses bytes e kind place is p = subst (Refuses bytes) (sym is) p

pub stops_of : (s : Spot) (a : List ℕ) (e : Stop) (kind : TreeKind) (left : ℕ) → e ≡ stops.Fault kind left → StopsBy s a e → Stops s a (kind, left)
stops_of s a e kind left is p = subst (StopsBy s a) is p
