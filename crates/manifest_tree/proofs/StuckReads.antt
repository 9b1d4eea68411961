-- Where the reader has a fault of form, reading byte by byte sticks.
use Rattle.std.proofs.Common.{◌≡◌, ℕ, suc, Bool, true, false, cond, eqb, List, [], ◌∷◌, ◌++◌, length, Option, Some, None, Ok, Err, refl, sym, ap, subst, ◌∙◌, arith, inl, inr, ◌⊎◌}
use Rattle.std.specs.Prelude.{◌==◌, nat_lt, ◌||◌, ◌&&◌}
use Rattle.std.proofs.lemmas.Bool.{both_ways, ne_eqb, eqb-true, or_cases}
use Rattle.manifest_tree.specs.declared.fault.TreeKind.TheVariants.{Syntax, TooDeep, AttributeTwice}
use Rattle.manifest_tree.specs.declared.node.Attribute.{Attribute}
use Rattle.manifest_tree.specs.Lexis.{Read, white, allowed, name_first, name_byte, past, has_name, name_at, aside, begin, unit_at, quote_in, quote_at, tag_turn, TagTurn, attribute, opens, closes, attribute_at, is_among, turn_at, end_at, expect, ◌>>=◌}
use Rattle.manifest_tree.specs.Tree.{Tree, tree, none}
use Rattle.manifest_tree.specs.Loose.{data_byte, value_byte}
use Rattle.manifest_tree.specs.Spots.{Spot, start, before, inside, in_tag, in_value, behind, Next, go, stop, done, onward, OpenTree, finished, with_text, names_of, placed, next, root_step, before_step, markup_step, apart_step, inside_step, turned, tag_step, value_step, behind_apart, behind_step, Reads, here, step, Stops}
use Rattle.manifest_tree.proofs.Flat.{not_first, slash}
use Rattle.manifest_tree.proofs.Cuts.{chosen, bind_ok, ok_is, err_ok}
use Rattle.manifest_tree.proofs.Machine.{Ground, ahead, within, beyond, State, fresh, on, angle, naming, tag, value, end_mark, settled, out, is_end, tag_move, move, Goes, rests, moves, Stuck, Sticks, goes_join, sticks_after}
use Rattle.manifest_tree.proofs.Lexemes.{Follows, left_in, stuck_here, Alike, alike_self, apart_to, aside_follows, turn_to, tag_follows, end_follows, in_reference, reference_byte, unit_here}
use Rattle.manifest_tree.proofs.Starts.{Ahead, past_start, StartFollows, begin_follows, ahead_white, ahead_angle, AtAngle, ahead_no_end, ahead_lost, name_angle, name_alike, root_names, neither}

abbrev pub IsQuote : ℕ → Type 0
IsQuote quote = (quote ≡ 34) ⊎ (quote ≡ 39)

-- where reading byte by byte stands when the reader stands at a spot
abbrev pub Agrees : Spot → State → List ℕ → Type 0
Agrees start s rest = s ≡ fresh
Agrees before s rest = Ahead s rest
Agrees (inside o around) s rest = s ≡ on (within (length around))
Agrees (in_tag name attributes around) s rest = Alike s (tag (length around)) rest × (is_end s ≡ false)
Agrees (in_value name attributes of quote val around) s rest = (s ≡ value (length around) quote) × IsQuote quote
Agrees (behind t) s rest = s ≡ on beyond

pub record Lands (s : State) (bytes : List ℕ) (t : Spot) (rest : List ℕ) : Type 0 where
  pub state : State
  pub goes : Goes s bytes state rest
  pub agrees : Agrees t state rest

abbrev NextFollows : State → List ℕ → Next → Type 0
NextFollows s bytes (go t rest) = Lands s bytes t rest
NextFollows s bytes (stop fault) = fault.0 ≡ Syntax → Sticks s bytes fault.1
NextFollows s bytes (done t) = Unit {0}

next_after : (s t : State) (a b : List ℕ) (n : Next) → Goes s a t b → NextFollows t b n → NextFollows s a n
next_after s t a b (go u rest) p q = record { state = q.state; goes = goes_join p q.goes; agrees = q.agrees }
next_after s t a b (stop fault) p q = λ e. sticks_after fault.1 p (q e)
next_after s t a b (done u) p q = tt

onward_follows : {A : Type 0} (s : State) (a : List ℕ) (to : A → State × List ℕ) (r : Read A) (f : A → Next) → Follows s a to r → ((x : A) → r ≡ Ok x → NextFollows (to x).0 (to x).1 (f x)) → NextFollows s a (onward r f)
onward_follows s a to (Ok x) f p q = next_after s (to x).0 a (to x).1 (f x) p (q x refl)
onward_follows s a to (Err fault) f p q = p

next_if : (s : State) (a : List ℕ) (b : Bool) (x y : Next) → (b ≡ true → NextFollows s a x) → (b ≡ false → NextFollows s a y) → NextFollows s a (cond b x y)
next_if s a true x y p q = p refl
next_if s a false x y p q = q refl

placed_agrees : (t : Tree) (around : List OpenTree) (rest : List ℕ) → Agrees (placed t around) (on (out (length around))) rest
placed_agrees t [] rest = refl
placed_agrees t (o ∷ around) rest = refl

-- ---- before the root

start_next : (bytes : List ℕ) (r : Read (List ℕ)) → StartFollows bytes r → NextFollows fresh bytes (onward r (λ rest. go before rest))
start_next bytes (Ok rest) p = record { state = p.state; goes = p.goes; agrees = p.is_ahead }
start_next bytes (Err fault) p = p

-- behind a `<` where no comment and no instruction begins, and no name either
angle_lost : (g : Ground) (bytes : List ℕ) → aside bytes ≡ Ok None → has_name bytes ≡ false → ((c : ℕ) → name_first c ≡ false → tag_move g c ≡ None) → Stuck (angle g) bytes
angle_lost g [] apart unnamed lost = refl
angle_lost g (c ∷ cs) apart unnamed lost = let n = neither c cs apart in rw (n.0, n.1) (lost c unnamed)

root_next : (s : State) (cs : List ℕ) (a : AtAngle s cs) (found : Option (List ℕ)) → aside cs ≡ Ok found → NextFollows (apart_to a.ground cs found).0 (apart_to a.ground cs found).1 (root_step cs found)
root_next s cs a (Some rest) is = record { state = on (settled a.ground); goes = rests; agrees = subst (λ (g : Ground). Ahead (on g) rest) (sym a.settles) past_start }
root_next s cs a None is =
    next_if (angle a.ground) cs (has_name cs) (go (in_tag (name_at cs) [] []) (past name_byte cs)) (stop (Syntax, length cs))
    (λ h. record { state = naming 0; goes = name_angle a.ground 0 (root_names s cs a) cs h; agrees = (name_alike 0 cs, refl) })
    (λ h e. stuck_here (angle a.ground) cs (angle_lost a.ground cs is h (λ c unnamed. a.names c ∙ ap (λ (b : Bool). cond b (Some (naming 0)) None) unnamed)))

before_next : (s : State) (bytes : List ℕ) → Ahead s bytes → NextFollows s bytes (before_step bytes)
unfolding before_step
before_next s [] h = λ e. stuck_here s [] (ahead_no_end h)
before_next s (c ∷ cs) h =
    next_if s (c ∷ cs) (white c) (go before cs) (cond (eqb c 60) (onward (aside cs) (root_step cs)) (stop (Syntax, length (c ∷ cs))))
    (λ blank. record { state = on ahead; goes = moves (ahead_white h c cs refl blank) rests; agrees = past_start })
    (λ solid. next_if s (c ∷ cs) (eqb c 60) (onward (aside cs) (root_step cs)) (stop (Syntax, length (c ∷ cs)))
    (λ less.
    let a = ahead_angle (subst (Ahead s) (ap (λ (x : ℕ). x ∷ cs) (eqb-true c 60 less)) h) cs refl in
    let one : move s c ≡ Some (angle a.ground) = ap (move s) (eqb-true c 60 less) ∙ a.one in
    next_after s (angle a.ground) (c ∷ cs) cs (onward (aside cs) (root_step cs)) (moves one rests)
    (onward_follows (angle a.ground) cs (apart_to a.ground cs) (aside cs) (root_step cs) (aside_follows a.ground cs a.none) (root_next s cs a)))
    (λ other e. stuck_here s (c ∷ cs) (ahead_lost h c cs refl solid other)))

-- ---- in an element

module _ (o : OpenTree) (around : List OpenTree) where
  abbrev d : ℕ
  d = length around

  stays_inside : (c : ℕ) → allowed c ≡ true → eqb c 60 ≡ false → move (on (within d)) c ≡ Some (on (within d))
  unfolding data_byte
  stays_inside c held other = rw (other, held) refl

  reference_inside : (c : ℕ) → in_reference c ≡ true → move (on (within d)) c ≡ Some (on (within d))
  unfolding allowed
  reference_inside c is = let r = reference_byte c is in stays_inside c r.held r.no_markup

  markup_next : (bytes : List ℕ) → aside bytes ≡ Ok None → NextFollows (angle (within d)) bytes (markup_step o around bytes)
  markup_next [] apart = λ e. stuck_here (angle (within d)) [] refl
  markup_next (c ∷ cs) apart =
      let n = neither c cs apart in
      let ending = onward (end_at o.name (length (60 ∷ c ∷ cs)) cs) (λ rest. go (placed (finished o) around) rest) in
      let opening_tag = go (in_tag (name_at (c ∷ cs)) [] (o ∷ around)) (past name_byte (c ∷ cs)) in
      let too_deep = stop (TooDeep, length (60 ∷ c ∷ cs)) in
      let lost = stop (Syntax, length (c ∷ cs)) in
      next_if (angle (within d)) (c ∷ cs) (eqb c 47) ending (cond (name_first c) (cond (nat_lt (length around) 63) opening_tag too_deep) lost)
      (λ ends. next_after (angle (within d)) (end_mark d) (c ∷ cs) cs ending (moves (rw (n.0, n.1, ends) refl) rests)
      (onward_follows (end_mark d) cs (left_in (on (out d))) (end_at o.name (length (60 ∷ c ∷ cs)) cs) (λ rest. go (placed (finished o) around) rest) (end_follows d o.name (length (60 ∷ c ∷ cs)) cs)
      (λ rest is. record { state = on (out d); goes = rests; agrees = placed_agrees (finished o) around rest })))
      (λ other. next_if (angle (within d)) (c ∷ cs) (name_first c) (cond (nat_lt (length around) 63) opening_tag too_deep) lost
      (λ named. next_if (angle (within d)) (c ∷ cs) (nat_lt (length around) 63) opening_tag too_deep
      (λ shallow. record { state = naming (suc d); goes = name_angle (within d) (suc d) tag_names (c ∷ cs) named; agrees = (name_alike (suc d) (c ∷ cs), refl) })
      (λ deep e. absurd cc))
      (λ unnamed e. stuck_here (angle (within d)) (c ∷ cs) (rw (n.0, n.1, other, unnamed) refl)))
    where
      tag_names : (x : ℕ) → name_first x ≡ true → tag_move (within d) x ≡ Some (naming (suc d))
      tag_names x named = rw (not_first x 47 named slash, named) refl

  apart_next : (bytes : List ℕ) (found : Option (List ℕ)) → aside bytes ≡ Ok found → NextFollows (apart_to (within d) bytes found).0 (apart_to (within d) bytes found).1 (apart_step o around bytes found)
  apart_next bytes (Some rest) is = record { state = on (within d); goes = rests; agrees = refl }
  apart_next bytes None is = markup_next bytes is

  inside_next : (bytes : List ℕ) → NextFollows (on (within d)) bytes (inside_step o around bytes)
  unfolding inside_step data_byte
  inside_next [] = λ e. stuck_here (on (within d)) [] refl
  inside_next (c ∷ cs) =
      let unit_go = onward (unit_at false (c ∷ cs)) (λ found. go (inside (with_text o found.0) around) found.1) in
      next_if (on (within d)) (c ∷ cs) (eqb c 60) (onward (aside cs) (apart_step o around cs)) unit_go
      (λ less. next_after (on (within d)) (angle (within d)) (c ∷ cs) cs (onward (aside cs) (apart_step o around cs)) (moves (rw less refl) rests)
      (onward_follows (angle (within d)) cs (apart_to (within d) cs) (aside cs) (apart_step o around cs) (aside_follows (within d) cs (λ opens. absurd cc)) (apart_next cs)))
      (λ other. onward_follows (on (within d)) (c ∷ cs) (λ found. (on (within d), found.1)) (unit_at false (c ∷ cs)) (λ found. go (inside (with_text o found.0) around) found.1)
      (unit_here (on (within d)) (record { stays = reference_inside }) false c cs (λ x held no_markup which. stays_inside x held no_markup) refl
      (λ why. elim why [ inl unheld ↦ rw (other, unheld) refl | inr less ↦ absurd (both_ways (eqb c 60) other less) ]))
      (λ found is. record { state = on (within d); goes = rests; agrees = refl }))

-- ---- tags

abbrev quote_read : ℕ → List ℕ → Read (ℕ × List ℕ)
quote_read quote rest = Ok (quote, rest)

abbrev turn_read : TagTurn → List ℕ → Read (TagTurn × List ℕ)
turn_read turn rest = Ok (turn, rest)

abbrev turn_pair : List ℕ → ℕ → List ℕ → TagTurn × List ℕ
turn_pair name quote rest = (attribute name quote, rest)

quote_in_is : (w : List ℕ) (quote : ℕ) (rest : List ℕ) → quote_in w ≡ Ok (quote, rest) → IsQuote quote
quote_in_is [] quote rest e = absurd (err_ok _ (quote, rest) e)
quote_in_is (c ∷ cs) quote rest e =
    elim (chosen (eqb c 34 || eqb c 39) (quote_read c cs) (Err (Syntax, length (c ∷ cs))) (quote_read quote rest) e) [
      | inl p ↦
          let same : c ≡ quote = ap (λ (f : ℕ × List ℕ). f.0) (ok_is (c, cs) (quote, rest) p.1) in
          elim (or_cases (eqb c 34) (eqb c 39) p.0) [ inl q ↦ inl (sym same ∙ eqb-true c 34 q) | inr q ↦ inr (sym same ∙ eqb-true c 39 q) ]
      | inr p ↦ absurd (err_ok _ (quote, rest) p.1)
    ]

quote_at_is : (bytes : List ℕ) (quote : ℕ) (rest : List ℕ) → quote_at bytes ≡ Ok (quote, rest) → IsQuote quote
unfolding quote_at
quote_at_is bytes quote rest e =
    let x = bind_ok (expect (61 ∷ []) (past white bytes)) (λ l. quote_in (past white l)) (quote, rest) e in
    quote_in_is (past white x.0) quote rest x.2

attribute_quote : (names : List (List ℕ)) (w of : List ℕ) (quote : ℕ) (rest : List ℕ) → attribute_at names w ≡ Ok (attribute of quote, rest) → IsQuote quote
unfolding attribute_at
attribute_quote names w of quote rest e =
    let read = quote_at (past name_byte w) >>= λ found. turn_read (attribute (name_at w) found.0) found.1 in
    elim (chosen (has_name w) (cond (is_among names (name_at w)) (Err (AttributeTwice, length w)) read) (Err (Syntax, length w)) (turn_read (attribute of quote) rest) e) [
      | inl p ↦ elim (chosen (is_among names (name_at w)) (Err (AttributeTwice, length w)) read (turn_read (attribute of quote) rest) p.1) [
        | inl q ↦ absurd (err_ok _ (attribute of quote, rest) q.1)
        | inr q ↦
            let x = bind_ok (quote_at (past name_byte w)) (λ found. turn_read (attribute (name_at w) found.0) found.1) (attribute of quote, rest) q.1 in
            subst IsQuote (same_quote (name_at w) of x.0.0 quote x.0.1 rest (ok_is (attribute (name_at w) x.0.0, x.0.1) (attribute of quote, rest) x.2)) (quote_at_is (past name_byte w) x.0.0 x.0.1 x.1)
      ]
      | inr p ↦ absurd (err_ok _ (attribute of quote, rest) p.1)
    ]
  where
    same_quote : (m n : List ℕ) (q r : ℕ) (a b : List ℕ) → turn_pair m q a ≡ turn_pair n r b → q ≡ r
    same_quote m n q r a b e = let f : attribute m q ≡ attribute n r = ap (λ (t : TagTurn × List ℕ). t.0) e in cc

turn_quote : (names : List (List ℕ)) (bare : Bool) (w of : List ℕ) (quote : ℕ) (rest : List ℕ) → turn_at names bare w ≡ Ok (attribute of quote, rest) → IsQuote quote
turn_quote names bare [] of quote rest e = absurd (err_ok _ (attribute of quote, rest) e)
turn_quote names bare (c ∷ cs) of quote rest e =
    let others = cond bare (Err (Syntax, length (c ∷ cs))) (attribute_at names (c ∷ cs)) in
    let closing = expect (62 ∷ []) cs >>= λ l. turn_read closes l in
    elim (chosen (eqb c 62) (turn_read opens cs) (cond (eqb c 47) closing others) (turn_read (attribute of quote) rest) e) [
      | inl p ↦ absurd (opens_no cs of quote rest p.1)
      | inr p ↦ elim (chosen (eqb c 47) closing others (turn_read (attribute of quote) rest) p.1) [
        | inl q ↦ let x = bind_ok (expect (62 ∷ []) cs) (λ l. turn_read closes l) (attribute of quote, rest) q.1 in absurd (closes_no x.0 of quote rest x.2)
        | inr q ↦ elim (chosen bare (Err (Syntax, length (c ∷ cs))) (attribute_at names (c ∷ cs)) (turn_read (attribute of quote) rest) q.1) [
          | inl r ↦ absurd (err_ok _ (attribute of quote, rest) r.1)
          | inr r ↦ attribute_quote names (c ∷ cs) of quote rest r.1
        ]
      ]
    ]
  where
    opens_no : (l of : List ℕ) (quote : ℕ) (rest : List ℕ) → turn_read opens l ≡ turn_read (attribute of quote) rest → ⊥
    opens_no l of quote rest e = let f : opens ≡ attribute of quote = ap (λ (t : TagTurn × List ℕ). t.0) (ok_is (opens, l) (attribute of quote, rest) e) in cc

    closes_no : (l of : List ℕ) (quote : ℕ) (rest : List ℕ) → turn_read closes l ≡ turn_read (attribute of quote) rest → ⊥
    closes_no l of quote rest e = let f : closes ≡ attribute of quote = ap (λ (t : TagTurn × List ℕ). t.0) (ok_is (closes, l) (attribute of quote, rest) e) in cc

tag_next : (name : List ℕ) (attributes : List Attribute) (around : List OpenTree) (s : State) (bytes : List ℕ) → Alike s (tag (length around)) bytes → is_end s ≡ false → NextFollows s bytes (tag_step name attributes around bytes)
unfolding tag_step
tag_next name attributes around s bytes alike no_end =
    onward_follows s bytes (turn_to (length around)) (tag_turn (names_of attributes) bytes) (turned name attributes around) (tag_follows (length around) (names_of attributes) s bytes alike no_end) turned_follows
  where
    turned_follows : (x : TagTurn × List ℕ) → tag_turn (names_of attributes) bytes ≡ Ok x → NextFollows (turn_to (length around) x).0 (turn_to (length around) x).1 (turned name attributes around x)
    turned_follows (attribute of quote, rest) is =
        record { state = value (length around) quote; goes = rests; agrees = (refl, turn_quote (names_of attributes) (length (past white bytes) == length bytes) (past white bytes) of quote rest is) }
    turned_follows (opens, rest) is = record { state = on (within (length around)); goes = rests; agrees = refl }
    turned_follows (closes, rest) is = record { state = on (out (length around)); goes = rests; agrees = placed_agrees (tree name attributes none []) around rest }

-- ---- values

stays_in_value : (d quote c : ℕ) → allowed c ≡ true → eqb c 60 ≡ false → eqb c quote ≡ false → move (value d quote) c ≡ Some (value d quote)
unfolding value_byte data_byte
stays_in_value d quote c held no_markup other = rw (other, held, no_markup) refl

quote_other : (quote c : ℕ) → IsQuote quote → (c ≡ 34 → ⊥) → (c ≡ 39 → ⊥) → eqb c quote ≡ false
quote_other quote c q no_double no_single = elim q [ inl is ↦ ne_eqb c quote (λ e. no_double (e ∙ is)) | inr is ↦ ne_eqb c quote (λ e. no_single (e ∙ is)) ]

value_next : (name : List ℕ) (attributes : List Attribute) (of : List ℕ) (quote : ℕ) (val : List ℕ) (around : List OpenTree) → IsQuote quote → (bytes : List ℕ)
    → NextFollows (value (length around) quote) bytes (value_step name attributes of quote val around bytes)
unfolding value_step value_byte data_byte
value_next name attributes of quote val around q [] = λ e. stuck_here (value (length around) quote) [] refl
value_next name attributes of quote val around q (c ∷ cs) =
    let s = value (length around) quote in
    let ended = go (in_tag name (attributes ++ record { name = of; value = val } ∷ []) around) cs in
    let unit_go = onward (unit_at true (c ∷ cs)) (λ found. go (in_value name attributes of quote (val ++ found.0) around) found.1) in
    next_if s (c ∷ cs) (eqb c quote) ended unit_go
    (λ same. record { state = tag (length around); goes = moves (rw same refl) rests; agrees = (alike_self (tag (length around)) cs, refl) })
    (λ other. onward_follows s (c ∷ cs) (λ found. (s, found.1)) (unit_at true (c ∷ cs)) (λ found. go (in_value name attributes of quote (val ++ found.0) around) found.1)
    (unit_here s (record { stays = λ x is. let r = reference_byte x is in stays_in_value (length around) quote x r.held r.no_markup (quote_other quote x q r.no_double r.no_single) }) true c cs
    (λ x held no_markup which. stays_in_value (length around) quote x held no_markup (elim which [ inl is ↦ ap (λ (y : ℕ). eqb y quote) (eqb-true x c is) ∙ other | inr is ↦ quote_other quote x q (λ e. omega (arith, eqb-true x 10 is, e)) (λ e. omega (arith, eqb-true x 10 is, e)) ]))
    refl (λ why. rw other (elim why [ inl unheld ↦ rw unheld refl | inr less ↦ rw less (no_and (allowed c)) ])))
    (λ found is. record { state = s; goes = rests; agrees = (refl, q) }))
  where
    no_and : (b : Bool) → cond ((b && false) && true) (Some (value (length around) quote)) None ≡ None
    no_and true = refl
    no_and false = refl

-- ---- behind the root

behind_apart_next : (t : Tree) (bytes : List ℕ) (found : Option (List ℕ)) → aside bytes ≡ Ok found → NextFollows (apart_to beyond bytes found).0 (apart_to beyond bytes found).1 (behind_apart t bytes found)
behind_apart_next t bytes (Some rest) is = record { state = on beyond; goes = rests; agrees = refl }
behind_apart_next t bytes None is = λ e. stuck_here (angle beyond) bytes (lost bytes is)
  where
    lost : (l : List ℕ) → aside l ≡ Ok None → Stuck (angle beyond) l
    lost [] apart = refl
    lost (c ∷ cs) apart = let n = neither c cs apart in rw (n.0, n.1) refl

behind_next : (t : Tree) (bytes : List ℕ) → NextFollows (on beyond) bytes (behind_step t bytes)
unfolding behind_step
behind_next t [] = tt
behind_next t (c ∷ cs) =
    next_if (on beyond) (c ∷ cs) (white c) (go (behind t) cs) (cond (eqb c 60) (onward (aside cs) (behind_apart t cs)) (stop (Syntax, length (c ∷ cs))))
    (λ blank. record { state = on beyond; goes = moves (rw blank refl) rests; agrees = refl })
    (λ solid. next_if (on beyond) (c ∷ cs) (eqb c 60) (onward (aside cs) (behind_apart t cs)) (stop (Syntax, length (c ∷ cs)))
    (λ less. next_after (on beyond) (angle beyond) (c ∷ cs) cs (onward (aside cs) (behind_apart t cs)) (moves (rw (solid, less) refl) rests)
    (onward_follows (angle beyond) cs (apart_to beyond cs) (aside cs) (behind_apart t cs) (aside_follows beyond cs (λ opens. absurd cc)) (behind_apart_next t cs)))
    (λ other e. stuck_here (on beyond) (c ∷ cs) (rw (solid, other) refl)))

-- ---- all steps

one_next : (s : Spot) (u : State) (bytes : List ℕ) → Agrees s u bytes → NextFollows u bytes (next s bytes)
one_next start u bytes is = subst (λ (x : State). NextFollows x bytes (next start bytes)) (sym is) (start_next bytes (begin bytes) (begin_follows bytes))
one_next before u bytes is = before_next u bytes is
one_next (inside o around) u bytes is = subst (λ (x : State). NextFollows x bytes (inside_step o around bytes)) (sym is) (inside_next o around bytes)
one_next (in_tag name attributes around) u bytes is = tag_next name attributes around u bytes is.0 is.1
one_next (in_value name attributes of quote val around) u bytes is = subst (λ (x : State). NextFollows x bytes (value_step name attributes of quote val around bytes)) (sym is.0) (value_next name attributes of quote val around is.1 bytes)
one_next (behind t) u bytes is = subst (λ (x : State). NextFollows x bytes (behind_step t bytes)) (sym is) (behind_next t bytes)

pub lands : {s t : Spot} {a b : List ℕ} → Reads s a t b → (u : State) → Agrees s u a → Lands u a t b
lands here u is = record { state = u; goes = rests; agrees = is }
lands {s = s} {a = a} (step {t = t} {after = after} e r) u is =
    let one : Lands u a t after = subst (NextFollows u a) e (one_next s u a is) in
    let rest = lands r one.state one.agrees in
    record { state = rest.state; goes = goes_join one.goes rest.goes; agrees = rest.agrees }

pub stops_stick : (bytes : List ℕ) (left : ℕ) → Stops start bytes (Syntax, left) → Sticks fresh bytes left
stops_stick bytes left p =
    let l = lands p.reads fresh refl in
    sticks_after left l.goes ((subst (NextFollows l.state p.rest) p.stopped (one_next p.spot l.state p.rest l.agrees)) refl)
