-- Steps of reading, one behind the other.
use Rattle.std.proofs.Common.{◌≡◌, ℕ, zero, suc, true, false, List, [], ◌∷◌, ◌++◌, length, Result, Ok, Err, Option, Some, None, refl, sym, ap, subst, ◌∙◌, append_assoc, arith}
use Rattle.std.specs.Prelude.{IsSome, IfSome, ◌↔◌, ◌+◌, ◌<◌, ◌≤◌, map}
use Rattle.std.proofs.lemmas.Bool.{both_ways, ne_eqb, eq-eqb, lt-ltb, le-ltb}
use Rattle.std.proofs.lemmas.List.{map-append, length-map, length-reverse, append-nil, nil_from_length}
use Rattle.manifest_tree.specs.declared.fault.Stop.{Stop}
use Rattle.manifest_tree.specs.declared.fault.Stop.TheVariants as stops
use Rattle.manifest_tree.specs.declared.fault.TreeKind.TheVariants.{Syntax, TooDeep}
use Rattle.manifest_tree.specs.declared.node.Attribute.{Attribute}
use Rattle.std.specs.Borrow.{Bor}
use Rattle.manifest_tree.specs.declared.tag.Turn.{Turn}
use Rattle.manifest_tree.specs.declared.tag.Turn.TheVariants as turns
use Rattle.manifest_tree.specs.Lexis.{Fault, Read, unit_at, TagTurn, attribute, opens, closes, tag_turn, white, name_byte, past, has_name, name_at, aside, end_at, begin}
use Rattle.manifest_tree.specs.Pieces.{turn_in, open_tree, opens_of}
use Rattle.manifest_tree.specs.declared.open_element.OpenElement.{OpenElement}
use Rattle.manifest_tree.specs.Tree.{Tree, tree, none, more, trees, with_last, tree_of}
use Rattle.manifest_tree.specs.declared.node.Node.{Node}
use Rattle.manifest_tree.specs.Spots.{Spot, Next, go, stop, OpenTree, start, with_text, inside, in_tag, in_value, next, onward, before, behind, finished, value_step, inside_step, apart_step, markup_step, before_step, root_step, behind_step, behind_apart, tag_step, turned, opened, placed, names_of, Reads, here, step, Stops}
use Rattle.manifest_tree.specs.Outcome.{Fails, FailsText, Gives, GivesText, TextsAt, StopsBy, Leads, maybe}
use Rattle.std.specs.Str.{IsUtf8}
use Rattle.std.proofs.lemmas.Str.{IsUtf8-nil}

pub reads_join : {s t u : Spot} {a b c : List ℕ} → Reads s a t b → Reads t b u c → Reads s a u c
reads_join here q = q
reads_join (step e p) q = step e (reads_join p q)

pub reads_then : {s t u : Spot} {a b c : List ℕ} → Reads s a t b → next t b ≡ go u c → Reads s a u c
reads_then p e = reads_join p (step e here)

pub stops_then : {s t : Spot} {a b : List ℕ} (fault : Fault) → Reads s a t b → next t b ≡ stop fault → Stops s a fault
stops_then {t = t} {b = b} fault p e = record { spot = t; rest = b; reads = p; stopped = e }

pub stops_by_after : {s t : Spot} {a b : List ℕ} (e : Stop) → Reads s a t b → StopsBy t b e → StopsBy s a e
stops_by_after stops.Memory p q = tt
stops_by_after stops.NotText p q = record { spot = q.spot; rest = q.rest; reads = reads_join p q.reads; bad = q.bad }
stops_by_after (stops.Fault kind left) p q = record { spot = q.spot; rest = q.rest; reads = reads_join p q.reads; stopped = q.stopped }

pub leads_after : {X : Type 0} (to : X → Spot × List ℕ) {s t : Spot} {a b : List ℕ} (r : Result X Stop) → Reads s a t b → Leads to t b r → Leads to s a r
leads_after to (Ok x) p q = reads_join p q
leads_after to (Err e) p q = stops_by_after e p q

pub leads_err : {X : Type 0} (to : X → Spot × List ℕ) (s : Spot) (a : List ℕ) (r : Result X Stop) (e : Stop) → r ≡ Err e → StopsBy s a e → Leads to s a r
leads_err {X = X} to s a r e is p = subst (λ (x : Result X Stop). Leads to s a x) (sym is) p

-- a part that fails stops the step that it is read in
pub fails_stop : {A : Type 0} {s t : Spot} {a b : List ℕ} (e : Stop) (read : Read A) (f : A → Next) → Reads s a t b → next t b ≡ onward read f → Fails e read → StopsBy s a e
fails_stop stops.Memory read f p is fails = tt
fails_stop stops.NotText read f p is fails = absurd fails
fails_stop {A = A} (stops.Fault kind left) read f p is fails = stops_then (kind, left) p (is ∙ ap (λ (r : Read A). onward r f) fails)

pub goes_on : {A : Type 0} {s t u : Spot} {a b c : List ℕ} (read : Read A) (x : A) (f : A → Next) → Reads s a t b → next t b ≡ onward read f → read ≡ Ok x → f x ≡ go u c → Reads s a u c
goes_on {A = A} read x f p is reads e = reads_then p (is ∙ ap (λ (r : Read A). onward r f) reads ∙ e)

abbrev read_ok : List ℕ → Read (List ℕ)
read_ok x = Ok x

pub ok_is : (x y : List ℕ) → read_ok x ≡ read_ok y → y ≡ x
ok_is x y e = cc

pub none_left : {X : Type 0} {o : Option X} {n : ℕ} → IsSome o ↔ (0 < n) → ((x : X) → o ≡ Some x → ⊥) → n ≡ 0
none_left {o = None} {n = n} iff not = none_of n (λ lt. both_ways false refl (iff.1 lt))
  where
    none_of : (k : ℕ) → ((0 < k) → ⊥) → k ≡ 0
    none_of zero h = refl
    none_of (suc k) h = absurd (h (omega arith))
none_left {o = Some x} iff not = absurd (not x refl)

-- ---- values

module _ (name : List ℕ) (attributes : List Attribute) (of : List ℕ) (quote : ℕ) (around : List OpenTree) where
  value_next : (value rest : List ℕ) (c : ℕ) (tail : List ℕ) → rest ≡ c ∷ tail → (c ≡ quote → ⊥)
      → next (in_value name attributes of quote value around) rest ≡ onward (unit_at true rest) (λ found. go (in_value name attributes of quote (value ++ found.0) around) found.1)
  unfolding value_step
  value_next value rest c tail is other = rw (is, ne_eqb _ _ other) refl

  pub value_more : {s : Spot} {a : List ℕ} (value rest : List ℕ) (c : ℕ) (tail piece after made : List ℕ) → Reads s a (in_value name attributes of quote value around) rest
      → rest ≡ c ∷ tail → (c ≡ quote → ⊥) → unit_at true rest ≡ Ok (piece, after) → made ≡ value ++ piece → Reads s a (in_value name attributes of quote made around) after
  value_more {s} {a} value rest c tail piece after made p is other unit made_is =
      subst (λ (v : List ℕ). Reads s a (in_value name attributes of quote v around) after) (sym made_is) (goes_on (unit_at true rest) (piece, after) _ p (value_next value rest c tail is other) unit refl)

  pub value_fails : {s : Spot} {a : List ℕ} (value rest : List ℕ) (c : ℕ) (tail : List ℕ) (e : Stop) → Reads s a (in_value name attributes of quote value around) rest
      → rest ≡ c ∷ tail → (c ≡ quote → ⊥) → Fails e (unit_at true rest) → StopsBy s a e
  value_fails value rest c tail e p is other fails = fails_stop e (unit_at true rest) _ p (value_next value rest c tail is other) fails

  pub value_ends : {s : Spot} {a : List ℕ} (value rest : List ℕ) (c : ℕ) (tail made : List ℕ) → Reads s a (in_value name attributes of quote value around) rest
      → rest ≡ c ∷ tail → c ≡ quote → made ≡ value → Reads s a (in_tag name (attributes ++ record { name = of; value = made } ∷ []) around) tail
  unfolding value_step
  value_ends {s} {a} value rest c tail made p is same made_is =
      let e : next (in_value name attributes of quote value around) rest ≡ go (in_tag name (attributes ++ record { name = of; value = value } ∷ []) around) tail = rw (is, eq-eqb _ _ same) refl in
      subst (λ (v : List ℕ). Reads s a (in_tag name (attributes ++ record { name = of; value = v } ∷ []) around) tail) (sym made_is) (reads_then p e)

  pub value_cut : {s : Spot} {a : List ℕ} (value rest : List ℕ) → Reads s a (in_value name attributes of quote value around) rest → length rest ≡ 0 → StopsBy s a (stops.Fault Syntax (length rest))
  unfolding value_step
  value_cut value rest p empty =
      let nil = nil_from_length rest empty in
      stops_then (Syntax, length rest) p (rw nil refl)

-- ---- character data

module _ (top : OpenTree) (around : List OpenTree) where
  text_none : with_text top [] ≡ top
  text_none = ap (λ (t : List ℕ). record { name = top.name; attributes = top.attributes; children = top.children; text = t }) (append-nil top.text)

  pub data_none : (bytes made : List ℕ) → made ≡ [] → Reads (inside top around) bytes (inside (with_text top made) around) bytes
  data_none bytes made empty = subst (λ (o : OpenTree). Reads (inside top around) bytes (inside o around) bytes) (sym text_none ∙ ap (with_text top) (sym empty)) here

  data_next : (o : OpenTree) (rest : List ℕ) (c : ℕ) (tail : List ℕ) → rest ≡ c ∷ tail → (c ≡ 60 → ⊥)
      → next (inside o around) rest ≡ onward (unit_at false rest) (λ found. go (inside (with_text o found.0) around) found.1)
  unfolding inside_step
  data_next o rest c tail is other = rw (is, ne_eqb _ _ other) refl

  pub data_more : {s : Spot} {a : List ℕ} (value rest : List ℕ) (c : ℕ) (tail piece after made : List ℕ) → Reads s a (inside (with_text top value) around) rest
      → rest ≡ c ∷ tail → (c ≡ 60 → ⊥) → unit_at false rest ≡ Ok (piece, after) → made ≡ value ++ piece → Reads s a (inside (with_text top made) around) after
  data_more {s} {a} value rest c tail piece after made p is other unit made_is =
      let grouped : with_text (with_text top value) piece ≡ with_text top made =
      ap (λ (t : List ℕ). record { name = top.name; attributes = top.attributes; children = top.children; text = t }) (append_assoc top.text value piece ∙ ap (λ (t : List ℕ). top.text ++ t) (sym made_is)) in
      subst (λ (o : OpenTree). Reads s a (inside o around) after) grouped (goes_on (unit_at false rest) (piece, after) _ p (data_next (with_text top value) rest c tail is other) unit refl)

  pub data_fails : {s : Spot} {a : List ℕ} (o : OpenTree) (rest : List ℕ) (c : ℕ) (tail : List ℕ) (e : Stop) → Reads s a (inside o around) rest
      → rest ≡ c ∷ tail → (c ≡ 60 → ⊥) → Fails e (unit_at false rest) → StopsBy s a e
  data_fails o rest c tail e p is other fails = fails_stop e (unit_at false rest) _ p (data_next o rest c tail is other) fails

  pub data_cut : {s : Spot} {a : List ℕ} (o : OpenTree) (rest : List ℕ) → Reads s a (inside o around) rest → length rest ≡ 0 → StopsBy s a (stops.Fault Syntax (length rest))
  unfolding inside_step
  data_cut o rest p empty =
      let nil = nil_from_length rest empty in
      stops_then (Syntax, length rest) p (rw nil refl)

-- ---- start tags

module _ (name : List ℕ) (attributes seen : List Attribute) (around : List OpenTree) (same : seen ≡ attributes) where
  tag_next : (rest : List ℕ) → next (in_tag name attributes around) rest ≡ onward (tag_turn (names_of seen) rest) (turned name attributes around)
  unfolding tag_step
  tag_next rest = ap (λ (others : List Attribute). onward (tag_turn (names_of others) rest) (turned name attributes around)) (sym same)

  pub tag_fails : {s : Spot} {a : List ℕ} (rest : List ℕ) (e : Stop) → Reads s a (in_tag name attributes around) rest → Fails e (tag_turn (names_of seen) rest) → StopsBy s a e
  tag_fails rest e p fails = fails_stop e (tag_turn (names_of seen) rest) _ p (tag_next rest) fails

  tag_goes : {s u : Spot} {a c : List ℕ} (rest after : List ℕ) (turn : Turn) (is : TagTurn) → Reads s a (in_tag name attributes around) rest
      → tag_turn (names_of seen) rest ≡ Ok (turn_in turn, after) → turn_in turn ≡ is → turned name attributes around (is, after) ≡ go u c → Reads s a u c
  tag_goes rest after turn is p read turn_is e =
      goes_on (tag_turn (names_of seen) rest) (turn_in turn, after) _ p (tag_next rest) read (ap (λ (t : TagTurn). turned name attributes around (t, after)) turn_is ∙ e)

  pub tag_opens : {s : Spot} {a : List ℕ} (rest after : List ℕ) (turn : Turn) → Reads s a (in_tag name attributes around) rest
      → tag_turn (names_of seen) rest ≡ Ok (turn_in turn, after) → turn ≡ turns.Opens → Reads s a (inside (opened name attributes) around) after
  tag_opens rest after turn p read is = tag_goes rest after turn opens p read (ap turn_in is) refl

  pub tag_closes : {s : Spot} {a : List ℕ} (rest after : List ℕ) (turn : Turn) → Reads s a (in_tag name attributes around) rest
      → tag_turn (names_of seen) rest ≡ Ok (turn_in turn, after) → turn ≡ turns.Closes → Reads s a (placed (tree name attributes none []) around) after
  tag_closes rest after turn p read is = tag_goes rest after turn closes p read (ap turn_in is) refl

  pub tag_attribute : {s : Spot} {a : List ℕ} (rest after : List ℕ) (turn : Turn) (of : Bor (List ℕ)) (quote : ℕ) → Reads s a (in_tag name attributes around) rest
      → tag_turn (names_of seen) rest ≡ Ok (turn_in turn, after) → turn ≡ turns.Attribute of quote → Reads s a (in_value name attributes of.now quote [] around) after
  tag_attribute rest after turn of quote p read is = tag_goes rest after turn (attribute of.now quote) p read (ap turn_in is) refl

pub tag_begun : (around : List OpenTree) (name held : List ℕ) (attributes : List Attribute) (bytes rest : List ℕ) → held ≡ name → attributes ≡ [] → rest ≡ bytes → Reads (in_tag name [] around) bytes (in_tag held attributes around) rest
tag_begun around name held attributes bytes rest held_is empty rest_is =
    subst (λ (n : List ℕ). Reads (in_tag name [] around) bytes (in_tag n attributes around) rest) (sym held_is)
    (subst (λ (l : List Attribute). Reads (in_tag name [] around) bytes (in_tag name l around) rest) (sym empty)
    (subst (λ (b : List ℕ). Reads (in_tag name [] around) bytes (in_tag name [] around) b) (sym rest_is) here))

pub tag_pushed : {s : Spot} {a : List ℕ} (around : List OpenTree) (name : List ℕ) (old new : List Attribute) (rest : List ℕ) (pushed : Attribute) → new ≡ old ++ pushed ∷ []
    → Reads s a (in_tag name (old ++ pushed ∷ []) around) rest → Reads s a (in_tag name new around) rest
tag_pushed {s} {a} around name old new rest pushed is p = subst (λ (l : List Attribute). Reads s a (in_tag name l around) rest) (sym is) p

-- ---- markup in an element

module _ (o : OpenTree) (around : List OpenTree) where
  apart_next : (bytes : List ℕ) → next (inside o around) (60 ∷ bytes) ≡ onward (aside bytes) (apart_step o around bytes)
  unfolding inside_step
  apart_next bytes = refl

  pub apart_goes : (bytes rest : List ℕ) → aside bytes ≡ Ok (Some rest) → Reads (inside o around) (60 ∷ bytes) (inside o around) rest
  apart_goes bytes rest is = goes_on (aside bytes) (Some rest) _ here (apart_next bytes) is refl

  pub apart_fails : (bytes : List ℕ) (e : Stop) → Fails e (aside bytes) → StopsBy (inside o around) (60 ∷ bytes) e
  apart_fails bytes e fails = fails_stop e (aside bytes) _ here (apart_next bytes) fails

  markup_next : (bytes : List ℕ) → aside bytes ≡ Ok None → next (inside o around) (60 ∷ bytes) ≡ markup_step o around bytes
  markup_next bytes is = apart_next bytes ∙ ap (λ (r : Read (Option (List ℕ))). onward r (apart_step o around bytes)) is

  pub markup_cut : (bytes : List ℕ) → aside bytes ≡ Ok None → length bytes ≡ 0 → StopsBy (inside o around) (60 ∷ bytes) (stops.Fault Syntax (length bytes))
  markup_cut bytes is empty =
      stops_then (Syntax, length bytes) here (markup_next bytes is ∙ rw (nil_from_length bytes empty) refl)

  end_next : (bytes : List ℕ) (c : ℕ) (tail : List ℕ) (left : ℕ) → aside bytes ≡ Ok None → bytes ≡ c ∷ tail → c ≡ 47 → left ≡ length bytes + 1
      → next (inside o around) (60 ∷ bytes) ≡ onward (end_at o.name left tail) (λ rest. go (placed (finished o) around) rest)
  end_next bytes c tail left apart is slash left_is =
      let n : left ≡ length (60 ∷ c ∷ tail) = omega (arith, ap length is) in
      markup_next bytes apart ∙ rw (is, eq-eqb _ _ slash, n) refl

  pub end_goes : (bytes : List ℕ) (c : ℕ) (tail : List ℕ) (left : ℕ) (name rest : List ℕ) → aside bytes ≡ Ok None → bytes ≡ c ∷ tail → c ≡ 47 → left ≡ length bytes + 1 → name ≡ o.name
      → end_at name left tail ≡ Ok rest → Reads (inside o around) (60 ∷ bytes) (placed (finished o) around) rest
  end_goes bytes c tail left name rest apart is slash left_is name_is end =
      goes_on (end_at o.name left tail) rest _ here (end_next bytes c tail left apart is slash left_is) (ap (λ (n : List ℕ). end_at n left tail) (sym name_is) ∙ end) refl

  pub end_fails : (bytes : List ℕ) (c : ℕ) (tail : List ℕ) (left : ℕ) (name : List ℕ) (e : Stop) → aside bytes ≡ Ok None → bytes ≡ c ∷ tail → c ≡ 47 → left ≡ length bytes + 1 → name ≡ o.name
      → Fails e (end_at name left tail) → StopsBy (inside o around) (60 ∷ bytes) e
  end_fails bytes c tail left name e apart is slash left_is name_is fails =
      fails_stop e (end_at o.name left tail) _ here (end_next bytes c tail left apart is slash left_is) (subst (λ (n : List ℕ). Fails e (end_at n left tail)) name_is fails)

  pub markup_lost : (bytes : List ℕ) (c : ℕ) (tail : List ℕ) → aside bytes ≡ Ok None → bytes ≡ c ∷ tail → (c ≡ 47 → ⊥) → has_name bytes ≡ false
      → StopsBy (inside o around) (60 ∷ bytes) (stops.Fault Syntax (length bytes))
  markup_lost bytes c tail apart is other lost =
      let lost_too : has_name (c ∷ tail) ≡ false = ap has_name (sym is) ∙ lost in
      stops_then (Syntax, length bytes) here (markup_next bytes apart ∙ rw (is, ne_eqb _ _ other, lost_too) refl)

  pub start_goes : (bytes : List ℕ) (c : ℕ) (tail : List ℕ) → aside bytes ≡ Ok None → bytes ≡ c ∷ tail → (c ≡ 47 → ⊥) → has_name bytes ≡ true → length around < 63
      → Reads (inside o around) (60 ∷ bytes) (in_tag (name_at bytes) [] (o ∷ around)) (past name_byte bytes)
  start_goes bytes c tail apart is other named shallow =
      let named_too : has_name (c ∷ tail) ≡ true = ap has_name (sym is) ∙ named in
      reads_then here (markup_next bytes apart ∙ rw (is, ne_eqb _ _ other, named_too, lt-ltb _ _ shallow) refl)

  pub start_deep : (bytes : List ℕ) (c : ℕ) (tail : List ℕ) (left : ℕ) → aside bytes ≡ Ok None → bytes ≡ c ∷ tail → (c ≡ 47 → ⊥) → has_name bytes ≡ true → 63 ≤ length around → left ≡ length bytes + 1
      → StopsBy (inside o around) (60 ∷ bytes) (stops.Fault TooDeep left)
  start_deep bytes c tail left apart is other named deep left_is =
      let named_too : has_name (c ∷ tail) ≡ true = ap has_name (sym is) ∙ named in
      let n : left ≡ length (60 ∷ c ∷ tail) = omega (arith, ap length is) in
      stops_then (TooDeep, left) here (markup_next bytes apart ∙ rw (is, ne_eqb _ _ other, named_too, le-ltb _ _ deep, n) refl)

-- ---- before and behind the root

pub before_white : (rest : List ℕ) (c : ℕ) (tail : List ℕ) → rest ≡ c ∷ tail → white c ≡ true → next before rest ≡ go before tail
unfolding before_step
before_white rest c tail is blank = rw (is, blank) refl

before_next : (rest : List ℕ) (c : ℕ) (tail : List ℕ) → rest ≡ c ∷ tail → white c ≡ false → c ≡ 60 → next before rest ≡ onward (aside tail) (root_step tail)
unfolding before_step
before_next rest c tail is solid same = rw (is, solid, eq-eqb _ _ same) refl

pub before_lost : {a : List ℕ} (rest : List ℕ) (c : ℕ) (tail : List ℕ) → Reads before a before rest → rest ≡ c ∷ tail → white c ≡ false → (c ≡ 60 → ⊥) → StopsBy before a (stops.Fault Syntax (length rest))
unfolding before_step
before_lost rest c tail p is solid other = stops_then (Syntax, length rest) p (rw (is, solid, ne_eqb _ _ other) refl)

pub before_cut : {a : List ℕ} (rest : List ℕ) → Reads before a before rest → length rest ≡ 0 → StopsBy before a (stops.Fault Syntax (length rest))
unfolding before_step
before_cut rest p empty = stops_then (Syntax, length rest) p (rw (nil_from_length rest empty) refl)

pub before_apart : {a : List ℕ} (rest : List ℕ) (c : ℕ) (tail after : List ℕ) → Reads before a before rest → rest ≡ c ∷ tail → white c ≡ false → c ≡ 60 → aside tail ≡ Ok (Some after) → Reads before a before after
before_apart rest c tail after p is solid same apart = goes_on (aside tail) (Some after) _ p (before_next rest c tail is solid same) apart refl

pub before_fails : {a : List ℕ} (rest : List ℕ) (c : ℕ) (tail : List ℕ) (e : Stop) → Reads before a before rest → rest ≡ c ∷ tail → white c ≡ false → c ≡ 60 → Fails e (aside tail) → StopsBy before a e
before_fails rest c tail e p is solid same fails = fails_stop e (aside tail) _ p (before_next rest c tail is solid same) fails

pub before_root : {a : List ℕ} (rest : List ℕ) (c : ℕ) (tail : List ℕ) → Reads before a before rest → rest ≡ c ∷ tail → white c ≡ false → c ≡ 60 → aside tail ≡ Ok None → has_name tail ≡ true
    → Reads before a (in_tag (name_at tail) [] []) (past name_byte tail)
before_root rest c tail p is solid same apart named = goes_on (aside tail) None _ p (before_next rest c tail is solid same) apart (rw named refl)

pub before_unnamed : {a : List ℕ} (rest : List ℕ) (c : ℕ) (tail : List ℕ) → Reads before a before rest → rest ≡ c ∷ tail → white c ≡ false → c ≡ 60 → aside tail ≡ Ok None → has_name tail ≡ false
    → StopsBy before a (stops.Fault Syntax (length tail))
before_unnamed rest c tail p is solid same apart named =
    stops_then (Syntax, length tail) p (before_next rest c tail is solid same ∙ ap (λ (r : Read (Option (List ℕ))). onward r (root_step tail)) apart ∙ rw named refl)

module _ (t : Tree) where
  pub behind_white : (rest : List ℕ) (c : ℕ) (tail : List ℕ) → rest ≡ c ∷ tail → white c ≡ true → next (behind t) rest ≡ go (behind t) tail
  unfolding behind_step
  behind_white rest c tail is blank = rw (is, blank) refl

  behind_next : (rest : List ℕ) (c : ℕ) (tail : List ℕ) → rest ≡ c ∷ tail → white c ≡ false → c ≡ 60 → next (behind t) rest ≡ onward (aside tail) (behind_apart t tail)
  unfolding behind_step
  behind_next rest c tail is solid same = rw (is, solid, eq-eqb _ _ same) refl

  pub behind_lost : {a : List ℕ} (rest : List ℕ) (c : ℕ) (tail : List ℕ) → Reads (behind t) a (behind t) rest → rest ≡ c ∷ tail → white c ≡ false → (c ≡ 60 → ⊥) → StopsBy (behind t) a (stops.Fault Syntax (length rest))
  unfolding behind_step
  behind_lost rest c tail p is solid other = stops_then (Syntax, length rest) p (rw (is, solid, ne_eqb _ _ other) refl)

  pub behind_aside : {a : List ℕ} (rest : List ℕ) (c : ℕ) (tail after : List ℕ) → Reads (behind t) a (behind t) rest → rest ≡ c ∷ tail → white c ≡ false → c ≡ 60 → aside tail ≡ Ok (Some after) → Reads (behind t) a (behind t) after
  behind_aside rest c tail after p is solid same apart = goes_on (aside tail) (Some after) _ p (behind_next rest c tail is solid same) apart refl

  pub behind_fails : {a : List ℕ} (rest : List ℕ) (c : ℕ) (tail : List ℕ) (e : Stop) → Reads (behind t) a (behind t) rest → rest ≡ c ∷ tail → white c ≡ false → c ≡ 60 → Fails e (aside tail) → StopsBy (behind t) a e
  behind_fails rest c tail e p is solid same fails = fails_stop e (aside tail) _ p (behind_next rest c tail is solid same) fails

  pub behind_other : {a : List ℕ} (rest : List ℕ) (c : ℕ) (tail : List ℕ) → Reads (behind t) a (behind t) rest → rest ≡ c ∷ tail → white c ≡ false → c ≡ 60 → aside tail ≡ Ok None → StopsBy (behind t) a (stops.Fault Syntax (length tail))
  behind_other rest c tail p is solid same apart =
      stops_then (Syntax, length tail) p (behind_next rest c tail is solid same ∙ ap (λ (r : Read (Option (List ℕ))). onward r (behind_apart t tail)) apart)

-- ---- the open elements

pub trees_push : (ts : List Tree) (t : Tree) → trees (ts ++ t ∷ []) ≡ with_last (trees ts) t
trees_push [] t = refl
trees_push (s ∷ ts) t = ap (more s) (trees_push ts t)

pub child_trees : (nodes all : List Node) (node : Node) → all ≡ nodes ++ node ∷ [] → trees (map tree_of all) ≡ with_last (trees (map tree_of nodes)) (tree_of node)
child_trees nodes all node is = ap (λ (ns : List Node). trees (map tree_of ns)) is ∙ ap trees (map-append tree_of nodes (node ∷ [])) ∙ trees_push (map tree_of nodes) (tree_of node)

abbrev pub open_ok : OpenTree → Read OpenTree
open_ok o = Ok o

-- what a step that cannot be at fault gave
abbrev ok_at : {A : Type 0} → A → Read A
ok_at x = Ok x

pub ok_same : {A : Type 0} (x y : A) → ok_at x ≡ ok_at y → y ≡ x
ok_same x y e = cc

pub only_memory : {A : Type 0} (s : Spot) (a : List ℕ) (x : A) (e : Stop) → Fails e (ok_at x) → StopsBy s a e
only_memory s a x stops.Memory fails = tt
only_memory s a x stops.NotText fails = absurd fails
only_memory s a x (stops.Fault kind left) fails = absurd cc

pub memory_stops : (s : Spot) (a : List ℕ) (e : Stop) → e ≡ stops.Memory → StopsBy s a e
memory_stops s a e is = subst (StopsBy s a) (sym is) tt

pub to_spot : {s t u : Spot} {a b : List ℕ} → Reads s a t b → u ≡ t → Reads s a u b
to_spot {s} {t} {u} {a} {b} p is = subst (λ (v : Spot). Reads s a v b) (sym is) p

pub from_spot : {s t u : Spot} {a b : List ℕ} → Reads s a t b → u ≡ s → Reads u a t b
from_spot {s} {t} {u} {a} {b} p is = subst (λ (v : Spot). Reads v a t b) (sym is) p

pub opens_long : (os : List OpenElement) → length (opens_of os) ≡ length os
opens_long os = length-reverse (map open_tree os) ∙ length-map os open_tree

abbrev aside_ok : Option (List ℕ) → Read (Option (List ℕ))
aside_ok o = Ok o

pub inside_same : (o p : OpenTree) (around others : List OpenTree) → p ≡ o → others ≡ around → inside p others ≡ inside o around
inside_same o p around others same also = ap (λ (x : OpenTree). inside x others) same ∙ ap (λ (x : List OpenTree). inside o x) also

-- what `aside` gave, where it gave some rest
pub aside_some : (bytes : List ℕ) (found : Option (Bor (List ℕ))) (rest : Bor (List ℕ)) → aside bytes ≡ Ok (maybe found) → found ≡ Some rest → aside bytes ≡ Ok (Some rest.now)
aside_some bytes found rest read is = read ∙ ap (λ (o : Option (Bor (List ℕ))). aside_ok (maybe o)) is

pub aside_none : (bytes : List ℕ) (found : Option (Bor (List ℕ))) → aside bytes ≡ Ok (maybe found) → found ≡ None → aside bytes ≡ Ok None
aside_none bytes found read is = read ∙ ap (λ (o : Option (Bor (List ℕ))). aside_ok (maybe o)) is

pub begun_goes : (bytes rest : List ℕ) → begin bytes ≡ Ok rest → Reads start bytes before rest
begun_goes bytes rest is = goes_on (begin bytes) rest _ here refl is refl

pub begun_fails : (bytes : List ℕ) (e : Stop) → Fails e (begin bytes) → StopsBy start bytes e
begun_fails bytes e fails = fails_stop e (begin bytes) _ here refl fails

pub some_shorter : (bytes : List ℕ) (found : Option (Bor (List ℕ))) (rest : Bor (List ℕ)) → IfSome found (λ r. length r.now ≤ length bytes) → found ≡ Some rest → length rest.now ≤ length bytes
some_shorter bytes found rest short is = subst (λ (o : Option (Bor (List ℕ))). IfSome o (λ r. length r.now ≤ length bytes)) is short

-- a part of which no text could be made
pub text_stops : {A : Type 0} {s t : Spot} {a b : List ℕ} (bytes : List ℕ) (e : Stop) (x : A) → Reads s a t b → (TextsAt t b → IsUtf8 bytes) → FailsText bytes e (ok_at x) → StopsBy s a e
text_stops bytes stops.Memory x p utf8 fails = tt
text_stops {t = t} {b = b} bytes stops.NotText x p utf8 fails = record { spot = t; rest = b; reads = p; bad = λ texts. fails (utf8 texts) }
text_stops bytes (stops.Fault kind left) x p utf8 fails = absurd cc

-- no text could be made of no bytes
pub empty_text : {A B : Type 0} (bytes : List ℕ) (e : Stop) (x : A) (y : B) → bytes ≡ [] → FailsText bytes e (ok_at x) → Fails e (ok_at y)
empty_text bytes stops.Memory x y is fails = tt
empty_text bytes stops.NotText x y is fails = fails (subst IsUtf8 (sym is) IsUtf8-nil)
empty_text bytes (stops.Fault kind left) x y is fails = absurd cc

pub quote_first : (rest : List ℕ) (c quote : ℕ) (tail : List ℕ) → rest ≡ c ∷ tail → c ≡ quote → rest ≡ quote ∷ tail
quote_first rest c quote tail is same = is ∙ ap (λ (x : ℕ). x ∷ tail) same

pub fails_text_too : {A B : Type 0} (bytes : List ℕ) (e : Stop) (x : A) (y : B) → FailsText bytes e (ok_at x) → FailsText bytes e (ok_at y)
fails_text_too bytes stops.Memory x y fails = tt
fails_text_too bytes stops.NotText x y fails = fails
fails_text_too bytes (stops.Fault kind left) x y fails = absurd cc

pub gives_text_at : {X Y : Type 0} (bytes : List ℕ) (view : X → Y) (r : Result X Stop) (e : Stop) (read : Read Y) → r ≡ Err e → FailsText bytes e read → GivesText bytes view r read
gives_text_at {X} bytes view r e read is fails = subst (λ (x : Result X Stop). GivesText bytes view x read) (sym is) fails

pub gives_at : {X Y : Type 0} (view : X → Y) (r : Result X Stop) (e : Stop) (read : Read Y) → r ≡ Err e → Fails e read → Gives view r read
gives_at {X} view r e read is fails = subst (λ (x : Result X Stop). Gives view x read) (sym is) fails
