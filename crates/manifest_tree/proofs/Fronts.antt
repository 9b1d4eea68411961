-- The place where reading byte by byte sticks is that of the first byte with which the bytes so far begin no text.
use Rattle.std.proofs.Common.{◌≡◌, ℕ, zero, suc, ◌-◌, false, List, [], ◌∷◌, ◌++◌, length, Some, refl, sym, ap, subst, ◌∙◌, append_assoc, arith, length-append}
use Rattle.std.specs.Prelude.{nat_eq}
use Rattle.std.specs.Str.{bytes_eq}
use Rattle.std.proofs.lemmas.Bool.{eq-eqb, and_right}
use Rattle.std.proofs.lemmas.List.{append-nil}
use Rattle.manifest_tree.specs.Lexis.{white, allowed, name_first, name_byte}
use Rattle.manifest_tree.specs.Loose.{LooseText, Begins, IsLost, at_byte, at_end}
use Rattle.manifest_tree.proofs.Machine.{Ground, opening, ahead, within, beyond, State, fresh, mark_one, mark_two, on, angle, bang, bang_dash, remark, remark_dash, remark_dashes, asks, tells, tells_mark, naming, tag, spaced_tag, slash, attribute_name, equals, quotes, value, end_mark, end_name, end_space, settled, out, move, Goes, rests, moves, Stuck, Sticks, goes_join, goes_on_from, cut, stuck_ends}
use Rattle.manifest_tree.proofs.Completed.{goes_text}
use Rattle.manifest_tree.proofs.Loosely.{text_goes}

-- ---- each state can be completed

abbrev out_finish : ℕ → List ℕ
out_finish zero = []
out_finish (suc d) = 60 ∷ 47 ∷ 97 ∷ 62 ∷ out_finish d

abbrev on_finish : Ground → List ℕ
on_finish opening = 60 ∷ 97 ∷ 47 ∷ 62 ∷ []
on_finish ahead = 60 ∷ 97 ∷ 47 ∷ 62 ∷ []
on_finish (within d) = out_finish (suc d)
on_finish beyond = []

abbrev angle_finish : Ground → List ℕ
angle_finish opening = 97 ∷ 47 ∷ 62 ∷ []
angle_finish ahead = 97 ∷ 47 ∷ 62 ∷ []
angle_finish (within d) = 47 ∷ 97 ∷ 62 ∷ out_finish d
angle_finish beyond = 33 ∷ 45 ∷ 45 ∷ 45 ∷ 45 ∷ 62 ∷ []

abbrev finish : State → List ℕ
finish fresh = 60 ∷ 97 ∷ 47 ∷ 62 ∷ []
finish mark_one = 187 ∷ 191 ∷ 60 ∷ 97 ∷ 47 ∷ 62 ∷ []
finish mark_two = 191 ∷ 60 ∷ 97 ∷ 47 ∷ 62 ∷ []
finish (on g) = on_finish g
finish (angle g) = angle_finish g
finish (bang g) = 45 ∷ 45 ∷ 45 ∷ 45 ∷ 62 ∷ on_finish g
finish (bang_dash g) = 45 ∷ 45 ∷ 45 ∷ 62 ∷ on_finish g
finish (remark g) = 45 ∷ 45 ∷ 62 ∷ on_finish g
finish (remark_dash g) = 45 ∷ 62 ∷ on_finish g
finish (remark_dashes g) = 62 ∷ on_finish g
finish (asks g name) = 97 ∷ 63 ∷ 62 ∷ on_finish (settled g)
finish (tells g) = 63 ∷ 62 ∷ on_finish g
finish (tells_mark g) = 62 ∷ on_finish g
finish (naming d) = 47 ∷ 62 ∷ out_finish d
finish (tag d) = 47 ∷ 62 ∷ out_finish d
finish (spaced_tag d) = 47 ∷ 62 ∷ out_finish d
finish (slash d) = 62 ∷ out_finish d
finish (attribute_name d) = 61 ∷ 34 ∷ 34 ∷ 47 ∷ 62 ∷ out_finish d
finish (equals d) = 61 ∷ 34 ∷ 34 ∷ 47 ∷ 62 ∷ out_finish d
finish (quotes d) = 34 ∷ 34 ∷ 47 ∷ 62 ∷ out_finish d
finish (value d quote) = quote ∷ 47 ∷ 62 ∷ out_finish d
finish (end_mark d) = 97 ∷ 62 ∷ out_finish d
finish (end_name d) = 62 ∷ out_finish d
finish (end_space d) = 62 ∷ out_finish d

abbrev Ends : State → List ℕ → Type 0
Ends s bytes = Goes s bytes (on beyond) []

out_ends : (d : ℕ) → Ends (on (out d)) (out_finish d)
unfolding white name_first name_byte
out_ends zero = rests
out_ends (suc d) = moves refl (moves refl (moves refl (moves refl (out_ends d))))

closed_ends : (d : ℕ) → Ends (tag d) (47 ∷ 62 ∷ out_finish d)
unfolding white
closed_ends d = moves refl (moves refl (out_ends d))

naming_ends : (d : ℕ) → Ends (naming d) (47 ∷ 62 ∷ out_finish d)
unfolding white name_first name_byte
naming_ends d = moves refl (moves refl (out_ends d))

angle_ends : (g : Ground) → Ends (angle g) (angle_finish g)
unfolding white allowed name_first name_byte
angle_ends opening = moves refl (naming_ends 0)
angle_ends ahead = moves refl (naming_ends 0)
angle_ends (within d) = moves refl (moves refl (moves refl (out_ends d)))
angle_ends beyond = moves refl (moves refl (moves refl (moves refl (moves refl (moves refl rests)))))

on_ends : (g : Ground) → Ends (on g) (on_finish g)
unfolding white
on_ends opening = moves refl (angle_ends opening)
on_ends ahead = moves refl (angle_ends ahead)
on_ends (within d) = out_ends (suc d)
on_ends beyond = rests

remark_ends : (g : Ground) → Ends (remark g) (45 ∷ 45 ∷ 62 ∷ on_finish g)
remark_ends g = moves refl (moves refl (moves refl (on_ends g)))

tells_ends : (g : Ground) → Ends (tells g) (63 ∷ 62 ∷ on_finish g)
tells_ends g = moves refl (moves refl (on_ends g))

value_ends : (d quote : ℕ) → Ends (value d quote) (quote ∷ 47 ∷ 62 ∷ out_finish d)
value_ends d quote =
    let one : move (value d quote) quote ≡ Some (tag d) = rw (eq-eqb quote quote refl) refl in
    moves one (closed_ends d)

-- no name that ends in `a` is `xml`
not_xml : (x : ℕ) (xs : List ℕ) → bytes_eq ((x ∷ xs) ++ 97 ∷ []) (120 ∷ 109 ∷ 108 ∷ []) ≡ false
not_xml x [] = and_right (nat_eq x 120) false refl
not_xml x (y ∷ []) = rw (and_right (nat_eq y 109) false refl) (and_right (nat_eq x 120) false refl)
not_xml x (y ∷ z ∷ []) = rw (and_right (nat_eq z 108) false refl, and_right (nat_eq y 109) false refl) (and_right (nat_eq x 120) false refl)
not_xml x (y ∷ z ∷ w ∷ ws) = rw (and_right (nat_eq z 108) false refl, and_right (nat_eq y 109) false refl) (and_right (nat_eq x 120) false refl)

asks_ends : (g : Ground) (name : List ℕ) → Ends (asks g name) (97 ∷ 63 ∷ 62 ∷ on_finish (settled g))
unfolding name_first name_byte
asks_ends g [] = moves refl (moves refl (moves refl (on_ends (settled g))))
asks_ends g (x ∷ xs) =
    let one : move (asks g ((x ∷ xs) ++ 97 ∷ [])) 63 ≡ Some (tells_mark (settled g)) = rw (not_xml x xs) refl in
    moves refl (moves one (moves refl (on_ends (settled g))))

finishes : (s : State) → Ends s (finish s)
unfolding white name_first name_byte
finishes fresh = moves refl (angle_ends opening)
finishes mark_one = moves refl (moves refl (on_ends opening))
finishes mark_two = moves refl (on_ends opening)
finishes (on g) = on_ends g
finishes (angle g) = angle_ends g
finishes (bang g) = moves refl (moves refl (remark_ends g))
finishes (bang_dash g) = moves refl (remark_ends g)
finishes (remark g) = remark_ends g
finishes (remark_dash g) = moves refl (moves refl (on_ends g))
finishes (remark_dashes g) = moves refl (on_ends g)
finishes (asks g name) = asks_ends g name
finishes (tells g) = tells_ends g
finishes (tells_mark g) = moves refl (on_ends g)
finishes (naming d) = naming_ends d
finishes (tag d) = closed_ends d
finishes (spaced_tag d) = moves refl (moves refl (out_ends d))
finishes (slash d) = moves refl (out_ends d)
finishes (attribute_name d) = moves refl (moves refl (value_ends d 34))
finishes (equals d) = moves refl (moves refl (value_ends d 34))
finishes (quotes d) = moves refl (value_ends d 34)
finishes (value d quote) = value_ends d quote
finishes (end_mark d) = moves refl (moves refl (out_ends d))
finishes (end_name d) = moves refl (out_ends d)
finishes (end_space d) = moves refl (out_ends d)

-- ---- fronts

-- what is read without sticking begins a text
pub goes_begins : (front : List ℕ) (s : State) → ((other : List ℕ) → Goes fresh (front ++ other) s other) → Begins front
goes_begins front s goes = record { more = finish s; text = goes_text (front ++ finish s) (goes_join (goes (finish s)) (finishes s)) }

lost_at : (bytes front rest : List ℕ) (s : State) → bytes ≡ front ++ rest → ((other : List ℕ) → Goes fresh (front ++ other) s other) → Stuck s rest → IsLost bytes (length bytes - length rest)
lost_at bytes front [] s is goes stuck =
    let whole : bytes ≡ front = is ∙ append-nil front in
    at_end (subst Begins (sym whole) (goes_begins front s goes))
    (λ text. stuck_ends s [] stuck (goes_on_from (goes []) (subst (λ (l : List ℕ). Goes fresh l (on beyond) []) is (text_goes bytes text)))) (omega arith)
lost_at bytes front (c ∷ cs) s is goes stuck =
    at_byte front c cs is (goes_begins front s goes)
    (λ begins.
    let text : LooseText (front ++ c ∷ begins.more) = subst LooseText (append_assoc front (c ∷ []) begins.more) begins.text in
    stuck_ends s (c ∷ begins.more) stuck (goes_on_from (goes (c ∷ begins.more)) (text_goes (front ++ c ∷ begins.more) text)))
    (omega (arith, ap length is, length-append front (c ∷ cs)))

pub sticks_lost : (bytes : List ℕ) (left place : ℕ) → Sticks fresh bytes left → place ≡ length bytes - left → IsLost bytes place
sticks_lost bytes left place p place_is =
    let k = cut p.goes in
    let here : length bytes - length p.rest ≡ place = ap (λ (n : ℕ). length bytes - n) p.left_is ∙ sym place_is in
    subst (IsLost bytes) here (lost_at bytes k.front p.rest p.state k.is k.goes p.stuck)
