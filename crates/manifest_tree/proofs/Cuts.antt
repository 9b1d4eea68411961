-- Where the parts of a text may be cut, it stays UTF-8.
use Rattle.std.proofs.Common.{◌≡◌, ℕ, zero, suc, ◌+◌, ◌-◌, ◌*◌, ◌<◌, ◌≤◌, Bool, true, false, not, cond, eqb, List, [], ◌∷◌, ◌++◌, length, drop, get_or, Option, Some, None, Ok, Err, refl, sym, ap, subst, ◌∙◌, append_assoc, arith, inl, inr, ◌⊎◌}
use Rattle.std.specs.Prelude.{nat_eq, nat_le, ◌||◌, ◌&&◌, option_and_then}
use Rattle.std.specs.List.{starts_with}
use Rattle.std.specs.Str.{IsUtf8}
use Rattle.std.specs.Char.{IsScalar, encode_utf8}
use Rattle.std.specs.Cmp.Lexicographic.{pointwise}
use Rattle.std.proofs.lemmas.Bool.{cases_Bool, cases_lt, ne_eqb, eqb-true, leb-false, leb-true, or_cases, or_parts, and_parts}
use Rattle.std.proofs.lemmas.Bool.Decides.{Decides-eqb}
use Rattle.std.proofs.lemmas.Slice.Eq.{starts_is}
use Rattle.std.proofs.lemmas.List.{append-nil, take_at, drop_at, length-append}
use Rattle.std.proofs.lemmas.Str.{IsUtf8-take, IsUtf8-drop, IsUtf8-append, IsUtf8-encode, IsUtf8-nil, IsUtf8-from_ascii, IsUtf8-past_char, IsCharBoundary-before_ascii, IsCharBoundary-after_ascii}
use Rattle.manifest_tree.specs.declared.fault.TreeKind.TheVariants.{Syntax}
use Rattle.manifest_tree.specs.Lexis.{Fault, Read, white, allowed, name_first, name_byte, front, past, has_name, aside, begin, past_mark, past_declaration, past_white_mark, comment, target, instruction, upto, unit_at, referred, reference_at, numbered_at, number_at, digits_on, digit_of, base_of, is_character, character_of, named_at, plain, past_line_feed, quote_in, quote_at, expect, ◌>>=◌}
use Rattle.manifest_tree.proofs.Runs.{front-past}

pub chosen : {A : Type 0} (b : Bool) (x y z : A) → cond b x y ≡ z → ((b ≡ true) × (x ≡ z)) ⊎ ((b ≡ false) × (y ≡ z))
chosen true x y z e = inl (refl, e)
chosen false x y z e = inr (refl, e)

-- ---- cuts at an ASCII byte

get_at : (a b : List ℕ) (c : ℕ) → get_or (a ++ c ∷ b) (length a) 0 ≡ c
get_at [] b c = refl
get_at (x ∷ a) b c = get_at a b c

inside_at : (a b : List ℕ) (c : ℕ) → length a < length (a ++ c ∷ b)
inside_at a b c = omega (arith, length-append a (c ∷ b))

pub utf8_front : (a b : List ℕ) (c : ℕ) → c < 128 → IsUtf8 (a ++ c ∷ b) → IsUtf8 a
utf8_front a b c ascii u =
    subst IsUtf8 (take_at a (c ∷ b) (length a) refl)
    (IsUtf8-take (a ++ c ∷ b) (length a) u (IsCharBoundary-before_ascii (a ++ c ∷ b) (length a) (inside_at a b c) (rw get_at ascii)))

pub utf8_back : (a b : List ℕ) (c : ℕ) → c < 128 → IsUtf8 (a ++ c ∷ b) → IsUtf8 (c ∷ b)
utf8_back a b c ascii u =
    subst IsUtf8 (drop_at a (c ∷ b) (length a) refl)
    (IsUtf8-drop (a ++ c ∷ b) (length a) u (IsCharBoundary-before_ascii (a ++ c ∷ b) (length a) (inside_at a b c) (rw get_at ascii)))

pub utf8_tail : (b : List ℕ) (c : ℕ) → c < 128 → IsUtf8 (c ∷ b) → IsUtf8 b
utf8_tail b c ascii u = IsUtf8-drop (c ∷ b) 1 u (IsCharBoundary-after_ascii (c ∷ b) 0 u (omega arith) ascii)

-- behind ASCII bytes
pub utf8_past : (a b : List ℕ) (c : ℕ) → c < 128 → IsUtf8 (a ++ c ∷ b) → IsUtf8 b
utf8_past a b c ascii u = utf8_tail b c ascii (utf8_back a b c ascii u)

ascii_at : (k : ℕ) → k < 128 → (i : ℕ) → get_or (k ∷ []) i 0 < 128
ascii_at k ascii zero = ascii
ascii_at k ascii (suc i) = omega arith

pub one_ascii : (k : ℕ) → k < 128 → IsUtf8 (k ∷ [])
one_ascii k ascii = IsUtf8-from_ascii (k ∷ []) (ascii_at k ascii)

-- ---- runs

below : (c k : ℕ) → eqb c k ≡ true → k < 128 → c < 128
below c k same small = omega (arith, eqb-true c k same)

pub white_ascii : (c : ℕ) → white c ≡ true → c < 128
unfolding white
white_ascii c is =
    elim (or_cases (eqb c 32 || eqb c 9 || eqb c 10) (eqb c 13) is) [
      | inl p ↦ elim (or_cases (eqb c 32 || eqb c 9) (eqb c 10) p) [
        | inl q ↦ elim (or_cases (eqb c 32) (eqb c 9) q) [
          | inl r ↦ below c 32 r (omega arith)
          | inr r ↦ below c 9 r (omega arith)
        ]
        | inr q ↦ below c 10 q (omega arith)
      ]
      | inr p ↦ below c 13 p (omega arith)
    ]

pub unnamed_ascii : (c : ℕ) → name_byte c ≡ false → c < 128
unfolding name_byte name_first
unnamed_ascii c is =
    let first = (or_parts _ _ (or_parts _ _ (or_parts _ _ is).0).0).0 in
    let high = (or_parts _ _ (or_parts _ _ (or_parts _ _ (or_parts _ _ first).0).0).0).0 in
    leb-false 128 c high

pub utf8_white : (a : List ℕ) → IsUtf8 a → IsUtf8 (past white a)
utf8_white [] u = u
utf8_white (c ∷ cs) u =
    elim (cases_Bool (white c)) [
      | inl blank ↦ subst IsUtf8 (sym (ap (λ (b : Bool). cond b (past white cs) (c ∷ cs)) blank)) (utf8_white cs (utf8_tail cs c (white_ascii c blank) u))
      | inr solid ↦ subst IsUtf8 (sym (ap (λ (b : Bool). cond b (past white cs) (c ∷ cs)) solid)) u
    ]

past_stops : (a : List ℕ) (c : ℕ) (cs : List ℕ) → past name_byte a ≡ c ∷ cs → name_byte c ≡ false
past_stops [] c cs is = absurd cc
past_stops (d ∷ ds) c cs is = elim (chosen (name_byte d) (past name_byte ds) (d ∷ ds) (c ∷ cs) is) [ inl p ↦ past_stops ds c cs p.1 | inr p ↦ ap name_byte (sym (heads d c ds cs p.1)) ∙ p.0 ]
  where
    heads : (x y : ℕ) (xs ys : List ℕ) → x ∷ xs ≡ y ∷ ys → x ≡ y
    heads x y xs ys e = cc

utf8_parts : (name rest : List ℕ) → ((c : ℕ) (cs : List ℕ) → rest ≡ c ∷ cs → c < 128) → IsUtf8 (name ++ rest) → IsUtf8 name × IsUtf8 rest
utf8_parts name [] ascii u = (subst IsUtf8 (append-nil name) u, IsUtf8-nil)
utf8_parts name (c ∷ cs) ascii u = (utf8_front name cs c (ascii c cs refl) u, utf8_back name cs c (ascii c cs refl) u)

utf8_split : (a : List ℕ) → IsUtf8 a → IsUtf8 (front name_byte a) × IsUtf8 (past name_byte a)
utf8_split a u = utf8_parts (front name_byte a) (past name_byte a) (λ c cs is. unnamed_ascii c (past_stops a c cs is)) (subst IsUtf8 (sym (front-past name_byte a)) u)

pub utf8_name : (a : List ℕ) → IsUtf8 a → IsUtf8 (front name_byte a)
utf8_name a u = (utf8_split a u).0

pub utf8_past_name : (a : List ℕ) → IsUtf8 a → IsUtf8 (past name_byte a)
utf8_past_name a u = (utf8_split a u).1

-- ---- spellings and marks

abbrev pub ok_of : {A : Type 0} → A → Read A
ok_of x = Ok x

abbrev pub err_of : {A : Type 0} → Fault → Read A
err_of fault = Err fault

pub ok_is : {A : Type 0} (x y : A) → ok_of x ≡ ok_of y → x ≡ y
ok_is x y e = cc

pub err_ok : {A : Type 0} (fault : Fault) (x : A) → err_of fault ≡ ok_of x → ⊥
err_ok fault x e = cc

pub bind_ok : {A B : Type 0} (r : Read A) (f : A → Read B) (y : B) → (r >>= f) ≡ Ok y → (x : A) × (r ≡ Ok x) × (f x ≡ Ok y)
bind_ok (Ok x) f y e = (x, refl, e)
bind_ok (Err d) f y e = absurd (err_ok d y e)

expect_split : (mark a r : List ℕ) → expect mark a ≡ Ok r → a ≡ mark ++ r
expect_split [] a r e = ok_is a r e
expect_split (m ∷ ms) [] r e = absurd (err_ok _ r e)
expect_split (m ∷ ms) (c ∷ cs) r e =
    elim (chosen (eqb c m) (expect ms cs) (err_of (Syntax, length (c ∷ cs))) (ok_of r) e) [
      | inl p ↦ ap (λ (x : ℕ). x ∷ cs) (eqb-true c m p.0) ∙ ap (λ (l : List ℕ). m ∷ l) (expect_split ms cs r p.1)
      | inr p ↦ absurd (err_ok _ r p.1)
    ]

pub starts_split : (a mark : List ℕ) → starts_with nat_eq a mark ≡ true → a ≡ mark ++ drop (length mark) a
starts_split a mark is = (starts_is Decides-eqb a mark (starts_with nat_eq a mark) refl).0 is

upto_split : (mark a r : List ℕ) → upto mark a ≡ Ok r → (inside : List ℕ) × (a ≡ inside ++ (mark ++ r))
upto_split mark [] r e = absurd (err_ok _ r e)
upto_split mark (c ∷ cs) r e =
    elim (chosen (starts_with nat_eq (c ∷ cs) mark) (ok_of (drop (length mark) (c ∷ cs))) (cond (allowed c) (upto mark cs) (err_of (Syntax, length (c ∷ cs)))) (ok_of r) e) [
      | inl p ↦ ([], starts_split (c ∷ cs) mark p.0 ∙ ap (λ (l : List ℕ). mark ++ l) (ok_is (drop (length mark) (c ∷ cs)) r p.1))
      | inr p ↦ elim (chosen (allowed c) (upto mark cs) (err_of (Syntax, length (c ∷ cs))) (ok_of r) p.1) [
        | inl q ↦ let x = upto_split mark cs r q.1 in (c ∷ x.0, ap (λ (l : List ℕ). c ∷ l) x.1)
        | inr q ↦ absurd (err_ok _ r q.1)
      ]
    ]

-- behind a mark that ends in an ASCII byte
utf8_upto : (mark : List ℕ) (k : ℕ) (a r : List ℕ) → k < 128 → upto (mark ++ k ∷ []) a ≡ Ok r → IsUtf8 a → IsUtf8 r
utf8_upto mark k a r ascii e u =
    let x = upto_split (mark ++ k ∷ []) a r e in
    let grouped : a ≡ (x.0 ++ mark) ++ k ∷ r = x.1 ∙ ap (λ (l : List ℕ). x.0 ++ l) (append_assoc mark (k ∷ []) r) ∙ sym (append_assoc x.0 mark (k ∷ r)) in
    utf8_past (x.0 ++ mark) r k ascii (subst IsUtf8 grouped u)

utf8_expect : (mark : List ℕ) (k : ℕ) (a r : List ℕ) → k < 128 → expect (mark ++ k ∷ []) a ≡ Ok r → IsUtf8 a → IsUtf8 r
utf8_expect mark k a r ascii e u =
    utf8_past mark r k ascii (subst IsUtf8 (expect_split (mark ++ k ∷ []) a r e ∙ append_assoc mark (k ∷ []) r) u)

utf8_comment : (a r : List ℕ) → comment a ≡ Ok r → IsUtf8 a → IsUtf8 r
unfolding comment
utf8_comment a r e u =
    let x = bind_ok (expect (33 ∷ 45 ∷ 45 ∷ []) a) (upto (45 ∷ 45 ∷ 62 ∷ [])) r e in
    utf8_upto (45 ∷ 45 ∷ []) 62 x.0 r (omega arith) x.2 (utf8_expect (33 ∷ 45 ∷ []) 45 a x.0 (omega arith) x.1 u)

target_is : (a r : List ℕ) → target a ≡ Ok r → past name_byte a ≡ r
unfolding target
target_is a r e =
    elim (chosen (has_name a) (cond (pointwise nat_eq (front name_byte a) (120 ∷ 109 ∷ 108 ∷ [])) (err_of (Syntax, length (past name_byte a))) (ok_of (past name_byte a))) (err_of (Syntax, length a)) (ok_of r) e) [
      | inl p ↦ elim (chosen (pointwise nat_eq (front name_byte a) (120 ∷ 109 ∷ 108 ∷ [])) (err_of (Syntax, length (past name_byte a))) (ok_of (past name_byte a)) (ok_of r) p.1) [
        | inl q ↦ absurd (err_ok _ r q.1)
        | inr q ↦ ok_is (past name_byte a) r q.1
      ]
      | inr p ↦ absurd (err_ok _ r p.1)
    ]

utf8_instruction : (a r : List ℕ) → instruction a ≡ Ok r → IsUtf8 a → IsUtf8 r
unfolding instruction
utf8_instruction a r e u =
    let x = bind_ok (expect (63 ∷ []) a) (λ rest. target rest >>= upto (63 ∷ 62 ∷ [])) r e in
    let y = bind_ok (target x.0) (upto (63 ∷ 62 ∷ [])) r x.2 in
    utf8_upto (63 ∷ []) 62 y.0 r (omega arith) y.2 (subst IsUtf8 (target_is x.0 y.0 y.1) (utf8_past_name x.0 (utf8_expect [] 63 a x.0 (omega arith) x.1 u)))

abbrev some_ok : List ℕ → Read (Option (List ℕ))
some_ok rest = Ok (Some rest)

some_is : (x y : List ℕ) → some_ok x ≡ some_ok y → x ≡ y
some_is x y e = cc

none_some : (y : List ℕ) → ok_of {A = Option (List ℕ)} None ≡ some_ok y → ⊥
none_some y e = cc

pub utf8_aside : (a r : List ℕ) → aside a ≡ Ok (Some r) → IsUtf8 a → IsUtf8 r
utf8_aside [] r e u = absurd (none_some r e)
utf8_aside (c ∷ cs) r e u =
    elim (chosen (eqb c 33) (comment (c ∷ cs) >>= some_ok) (cond (eqb c 63) (instruction (c ∷ cs) >>= some_ok) (ok_of {A = Option (List ℕ)} None)) (some_ok r) e) [
      | inl p ↦ let x = bind_ok (comment (c ∷ cs)) some_ok (Some r) p.1 in subst IsUtf8 (some_is x.0 r x.2) (utf8_comment (c ∷ cs) x.0 x.1 u)
      | inr p ↦ elim (chosen (eqb c 63) (instruction (c ∷ cs) >>= some_ok) (ok_of {A = Option (List ℕ)} None) (some_ok r) p.1) [
        | inl q ↦ let x = bind_ok (instruction (c ∷ cs)) some_ok (Some r) q.1 in subst IsUtf8 (some_is x.0 r x.2) (utf8_instruction (c ∷ cs) x.0 x.1 u)
        | inr q ↦ absurd (none_some r q.1)
      ]
    ]

-- ---- what a text begins with

order_mark : (r : List ℕ) → 239 ∷ 187 ∷ 191 ∷ r ≡ encode_utf8 65279 ++ r
unfolding encode_utf8
order_mark r = refl

utf8_mark : (a r : List ℕ) → past_mark a ≡ Ok r → IsUtf8 a → IsUtf8 r
utf8_mark [] r e u = subst IsUtf8 (ok_is [] r e) u
utf8_mark (c ∷ cs) r e u =
    elim (chosen (eqb c 239) (expect (187 ∷ 191 ∷ []) cs) (ok_of (c ∷ cs)) (ok_of r) e) [
      | inl p ↦
          let is : c ∷ cs ≡ 239 ∷ 187 ∷ 191 ∷ r = ap (λ (x : ℕ). x ∷ cs) (eqb-true c 239 p.0) ∙ ap (λ (l : List ℕ). 239 ∷ l) (expect_split (187 ∷ 191 ∷ []) cs r p.1) in
          IsUtf8-past_char (c ∷ cs) r 65279 u (is ∙ order_mark r)
      | inr p ↦ subst IsUtf8 (ok_is (c ∷ cs) r p.1) u
    ]

utf8_white_mark : (a rest r : List ℕ) → past_white_mark a rest ≡ Ok r → IsUtf8 a → IsUtf8 rest → IsUtf8 r
utf8_white_mark a [] r e u v = subst IsUtf8 (ok_is a r e) u
utf8_white_mark a (c ∷ cs) r e u v =
    elim (chosen (white c) (upto (63 ∷ 62 ∷ []) cs) (ok_of a) (ok_of r) e) [
      | inl p ↦ utf8_upto (63 ∷ []) 62 cs r (omega arith) p.1 (utf8_tail cs c (white_ascii c p.0) v)
      | inr p ↦ subst IsUtf8 (ok_is a r p.1) u
    ]

utf8_declaration : (a r : List ℕ) → past_declaration a ≡ Ok r → IsUtf8 a → IsUtf8 r
unfolding past_declaration
utf8_declaration a r e u =
    elim (chosen (starts_with nat_eq a (60 ∷ 63 ∷ 120 ∷ 109 ∷ 108 ∷ [])) (past_white_mark a (drop 5 a)) (ok_of a) (ok_of r) e) [
      | inl p ↦ utf8_white_mark a (drop 5 a) r p.1 u (utf8_past (60 ∷ 63 ∷ 120 ∷ 109 ∷ []) (drop 5 a) 108 (omega arith) (subst IsUtf8 (starts_split a (60 ∷ 63 ∷ 120 ∷ 109 ∷ 108 ∷ []) p.0) u))
      | inr p ↦ subst IsUtf8 (ok_is a r p.1) u
    ]

pub utf8_begin : (a r : List ℕ) → begin a ≡ Ok r → IsUtf8 a → IsUtf8 r
unfolding begin
utf8_begin a r e u =
    let x = bind_ok (past_mark a) past_declaration r e in
    utf8_declaration x.0 r x.2 (utf8_mark a x.0 x.1 u)

-- ---- quotes

abbrev quote_ok : ℕ → List ℕ → Read (ℕ × List ℕ)
quote_ok c rest = Ok (c, rest)

pub record OpensValue (quote : ℕ) (inside : List ℕ) : Type 0 where
  pub ascii : quote < 128
  pub utf8 : IsUtf8 inside

opens_in : (a : List ℕ) (found : ℕ × List ℕ) → quote_in a ≡ Ok found → IsUtf8 a → OpensValue found.0 found.1
opens_in [] found e u = absurd (err_ok _ found e)
opens_in (c ∷ cs) found e u =
    elim (chosen (eqb c 34 || eqb c 39) (quote_ok c cs) (err_of (Syntax, length (c ∷ cs))) (ok_of found) e) [
      | inl p ↦
          let small : c < 128 = elim (or_cases (eqb c 34) (eqb c 39) p.0) [ inl q ↦ below c 34 q (omega arith) | inr q ↦ below c 39 q (omega arith) ] in
          subst (λ (f : ℕ × List ℕ). OpensValue f.0 f.1) (ok_is (c, cs) found p.1) (record { ascii = small; utf8 = utf8_tail cs c small u })
      | inr p ↦ absurd (err_ok _ found p.1)
    ]

pub opens_value : (a : List ℕ) (quote : ℕ) (inside : List ℕ) → quote_at a ≡ Ok (quote, inside) → IsUtf8 a → OpensValue quote inside
unfolding quote_at
opens_value a quote inside e u =
    let x = bind_ok (expect (61 ∷ []) (past white a)) (λ rest. quote_in (past white rest)) (quote, inside) e in
    opens_in (past white x.0) (quote, inside) x.2 (utf8_white x.0 (utf8_expect [] 61 (past white a) x.0 (omega arith) x.1 (utf8_white a u)))

-- ---- references

pub record Names (code : ℕ) (rest : List ℕ) : Type 0 where
  pub scalar : IsScalar code
  pub utf8 : IsUtf8 rest

pub some_same : {A : Type 0} (x y : A) → Some x ≡ Some y → x ≡ y
some_same x y e = cc

pub none_is : {A : Type 0} (y : A) → None ≡ Some y → ⊥
none_is y e = cc

pub then_some : {A B : Type 0} (o : Option A) (f : A → Option B) (y : B) → option_and_then f o ≡ Some y → (x : A) × (o ≡ Some x) × (f x ≡ Some y)
then_some (Some x) f y e = (x, refl, e)
then_some None f y e = absurd (none_is y e)

abbrev pub some_of : ℕ → Option ℕ
some_of n = Some n

digit_ascii : (hexadecimal : Bool) (c d : ℕ) → digit_of hexadecimal c ≡ Some d → c < 128
unfolding digit_of
digit_ascii hexadecimal c d e =
    let second = nat_le 97 c && nat_le c 102 in
    elim (chosen (nat_le 48 c && nat_le c 57) (some_of (c - 48)) (cond (hexadecimal && nat_le 97 c && nat_le c 102) (some_of (c - 87)) (cond (hexadecimal && nat_le 65 c && nat_le c 70) (some_of (c - 55)) None)) (some_of d) e) [
      | inl p ↦ omega (arith, leb-true c 57 (and_parts (nat_le 48 c) (nat_le c 57) p.0).1)
      | inr p ↦ elim (chosen (hexadecimal && nat_le 97 c && nat_le c 102) (some_of (c - 87)) (cond (hexadecimal && nat_le 65 c && nat_le c 70) (some_of (c - 55)) None) (some_of d) p.1) [
        | inl q ↦ omega (arith, leb-true c 102 (and_parts (hexadecimal && nat_le 97 c) (nat_le c 102) q.0).1)
        | inr q ↦ elim (chosen (hexadecimal && nat_le 65 c && nat_le c 70) (some_of (c - 55)) None (some_of d) q.1) [
          | inl r ↦ omega (arith, leb-true c 70 (and_parts (hexadecimal && nat_le 65 c) (nat_le c 70) r.0).1)
          | inr r ↦ absurd (none_is d r.1)
        ]
      ]
    ]

abbrev pub number_some : ℕ → List ℕ → Option (ℕ × List ℕ)
number_some n rest = Some (n, rest)

utf8_digits : (hexadecimal : Bool) (more n : ℕ) (a : List ℕ) (found : ℕ × List ℕ) → digits_on hexadecimal more n a ≡ Some found → IsUtf8 a → IsUtf8 found.1
utf8_digits hexadecimal zero n [] found e u = absurd (none_is found e)
utf8_digits hexadecimal zero n (c ∷ cs) found e u =
    elim (chosen (eqb c 59) (number_some n cs) None (Some found) e) [
      | inl p ↦ subst (λ (f : ℕ × List ℕ). IsUtf8 f.1) (some_same (n, cs) found p.1) (utf8_tail cs c (below c 59 p.0 (omega arith)) u)
      | inr p ↦ absurd (none_is found p.1)
    ]
utf8_digits hexadecimal (suc more) n [] found e u = absurd (none_is found e)
utf8_digits hexadecimal (suc more) n (c ∷ cs) found e u =
    elim (chosen (eqb c 59) (number_some n cs) (option_and_then (λ d. digits_on hexadecimal more (n * base_of hexadecimal + d) cs) (digit_of hexadecimal c)) (Some found) e) [
      | inl p ↦ subst (λ (f : ℕ × List ℕ). IsUtf8 f.1) (some_same (n, cs) found p.1) (utf8_tail cs c (below c 59 p.0 (omega arith)) u)
      | inr p ↦
          let x = then_some (digit_of hexadecimal c) (λ d. digits_on hexadecimal more (n * base_of hexadecimal + d) cs) found p.1 in
          utf8_digits hexadecimal more (n * base_of hexadecimal + x.0) cs found x.2 (utf8_tail cs c (digit_ascii hexadecimal c x.0 x.1) u)
    ]

utf8_number : (hexadecimal : Bool) (a : List ℕ) (found : ℕ × List ℕ) → number_at hexadecimal a ≡ Some found → IsUtf8 a → IsUtf8 found.1
utf8_number hexadecimal [] found e u = absurd (none_is found e)
utf8_number hexadecimal (c ∷ cs) found e u =
    let x = then_some (digit_of hexadecimal c) (λ d. digits_on hexadecimal 7 d cs) found e in
    utf8_digits hexadecimal 7 x.0 cs found x.2 (utf8_tail cs c (digit_ascii hexadecimal c x.0 x.1) u)

character_scalar : (n c : ℕ) → character_of n ≡ Some c → IsScalar c
unfolding is_character
character_scalar n c e =
    elim (chosen (is_character n) (some_of n) None (some_of c) e) [
      | inl p ↦ subst IsScalar (some_same n c p.1) (and_parts (allowed n) _ p.0).1
      | inr p ↦ absurd (none_is c p.1)
    ]

numbered_names : (hexadecimal : Bool) (a : List ℕ) (found : ℕ × List ℕ) → numbered_at hexadecimal a ≡ Some found → IsUtf8 a → Names found.0 found.1
unfolding numbered_at
numbered_names hexadecimal a found e u =
    let x = then_some (number_at hexadecimal a) (λ f. option_and_then (λ c. number_some c f.1) (character_of f.0)) found e in
    let y = then_some (character_of x.0.0) (λ c. number_some c x.0.1) found x.2 in
    subst (λ (f : ℕ × List ℕ). Names f.0 f.1) (some_same (y.0, x.0.1) found y.2) (record { scalar = character_scalar x.0.0 y.0 y.1; utf8 = utf8_number hexadecimal a x.0 x.1 u })

behind_name : (mark : List ℕ) (k n code : ℕ) (a : List ℕ) (found : ℕ × List ℕ) → k < 128 → IsScalar code → starts_with nat_eq a (mark ++ k ∷ []) ≡ true → length (mark ++ k ∷ []) ≡ n → number_some code (drop n a) ≡ Some found → IsUtf8 a
    → Names found.0 found.1
behind_name mark k n code a found ascii scalar starts long e u =
    let is : a ≡ mark ++ k ∷ drop n a = starts_split a (mark ++ k ∷ []) starts ∙ append_assoc mark (k ∷ []) (drop (length (mark ++ k ∷ [])) a) ∙ ap (λ (m : ℕ). mark ++ k ∷ drop m a) long in
    subst (λ (f : ℕ × List ℕ). Names f.0 f.1) (some_same (code, drop n a) found e) (record { scalar = scalar; utf8 = utf8_past mark (drop n a) k ascii (subst IsUtf8 is u) })

named_names : (a : List ℕ) (found : ℕ × List ℕ) → named_at a ≡ Some found → IsUtf8 a → Names found.0 found.1
unfolding named_at
named_names a found e u =
    let apos = cond (starts_with nat_eq a (97 ∷ 112 ∷ 111 ∷ 115 ∷ 59 ∷ [])) (number_some 39 (drop 5 a)) None in
    let quot = cond (starts_with nat_eq a (113 ∷ 117 ∷ 111 ∷ 116 ∷ 59 ∷ [])) (number_some 34 (drop 5 a)) apos in
    let amp = cond (starts_with nat_eq a (97 ∷ 109 ∷ 112 ∷ 59 ∷ [])) (number_some 38 (drop 4 a)) quot in
    let gt = cond (starts_with nat_eq a (103 ∷ 116 ∷ 59 ∷ [])) (number_some 62 (drop 3 a)) amp in
    elim (chosen (starts_with nat_eq a (108 ∷ 116 ∷ 59 ∷ [])) (number_some 60 (drop 3 a)) gt (Some found) e) [
      | inl p ↦ behind_name (108 ∷ 116 ∷ []) 59 3 60 a found (omega arith) refl p.0 refl p.1 u
      | inr p ↦ elim (chosen (starts_with nat_eq a (103 ∷ 116 ∷ 59 ∷ [])) (number_some 62 (drop 3 a)) amp (Some found) p.1) [
        | inl p2 ↦ behind_name (103 ∷ 116 ∷ []) 59 3 62 a found (omega arith) refl p2.0 refl p2.1 u
        | inr p2 ↦ elim (chosen (starts_with nat_eq a (97 ∷ 109 ∷ 112 ∷ 59 ∷ [])) (number_some 38 (drop 4 a)) quot (Some found) p2.1) [
          | inl p3 ↦ behind_name (97 ∷ 109 ∷ 112 ∷ []) 59 4 38 a found (omega arith) refl p3.0 refl p3.1 u
          | inr p3 ↦ elim (chosen (starts_with nat_eq a (113 ∷ 117 ∷ 111 ∷ 116 ∷ 59 ∷ [])) (number_some 34 (drop 5 a)) apos (Some found) p3.1) [
            | inl p4 ↦ behind_name (113 ∷ 117 ∷ 111 ∷ 116 ∷ []) 59 5 34 a found (omega arith) refl p4.0 refl p4.1 u
            | inr p4 ↦ elim (chosen (starts_with nat_eq a (97 ∷ 112 ∷ 111 ∷ 115 ∷ 59 ∷ [])) (number_some 39 (drop 5 a)) None (Some found) p4.1) [
              | inl p5 ↦ behind_name (97 ∷ 112 ∷ 111 ∷ 115 ∷ []) 59 5 39 a found (omega arith) refl p5.0 refl p5.1 u
              | inr p5 ↦ absurd (none_is found p5.1)
            ]
          ]
        ]
      ]
    ]

reference_names : (a : List ℕ) (found : ℕ × List ℕ) → reference_at a ≡ Some found → IsUtf8 a → Names found.0 found.1
unfolding reference_at
reference_names a found e u =
    let decimal = cond (starts_with nat_eq a (35 ∷ [])) (numbered_at false (drop 1 a)) (named_at a) in
    elim (chosen (starts_with nat_eq a (35 ∷ 120 ∷ [])) (numbered_at true (drop 2 a)) decimal (Some found) e) [
      | inl p ↦ numbered_names true (drop 2 a) found p.1 (utf8_past (35 ∷ []) (drop 2 a) 120 (omega arith) (subst IsUtf8 (starts_split a (35 ∷ 120 ∷ []) p.0) u))
      | inr p ↦ elim (chosen (starts_with nat_eq a (35 ∷ [])) (numbered_at false (drop 1 a)) (named_at a) (Some found) p.1) [
        | inl q ↦ numbered_names false (drop 1 a) found q.1 (utf8_tail (drop 1 a) 35 (omega arith) (subst IsUtf8 (starts_split a (35 ∷ []) q.0) u))
        | inr q ↦ named_names a found q.1 u
      ]
    ]

-- ---- units

plain_ascii : (quoted : Bool) (c : ℕ) → c < 128 → plain quoted c < 128
unfolding plain
plain_ascii quoted c ascii = cond_below (quoted && (eqb c 9 || eqb c 10))
  where
    cond_below : (b : Bool) → cond b 32 c < 128
    cond_below true = omega arith
    cond_below false = ascii

plain_same : (quoted : Bool) (c : ℕ) → 128 ≤ c → plain quoted c ≡ c
unfolding plain
plain_same quoted c high =
    rw (ne_eqb c 9 (λ e. absurd (omega (arith, e, high))), ne_eqb c 10 (λ e. absurd (omega (arith, e, high)))) (never quoted)
  where
    never : (b : Bool) → cond (b && false) 32 c ≡ c
    never true = refl
    never false = refl

utf8_line_feed : (a : List ℕ) → IsUtf8 a → IsUtf8 (past_line_feed a)
utf8_line_feed [] u = u
utf8_line_feed (c ∷ cs) u =
    elim (cases_Bool (eqb c 10)) [
      | inl same ↦ subst IsUtf8 (sym (ap (λ (b : Bool). cond b cs (c ∷ cs)) same)) (utf8_tail cs c (below c 10 same (omega arith)) u)
      | inr other ↦ subst IsUtf8 (sym (ap (λ (b : Bool). cond b cs (c ∷ cs)) other)) u
    ]

-- ASCII before a cut may be replaced
replaced : (done piece cs rest : List ℕ) (c : ℕ) → c < 128 → IsUtf8 (done ++ c ∷ cs) → IsUtf8 piece → IsUtf8 rest → IsUtf8 ((done ++ piece) ++ rest)
replaced done piece cs rest c ascii u v w = IsUtf8-append (done ++ piece) rest (IsUtf8-append done piece (utf8_front done cs c ascii u) v) w

abbrev unit_ok : List ℕ → List ℕ → Read (List ℕ × List ℕ)
unit_ok piece rest = Ok (piece, rest)

pub utf8_unit : (quoted : Bool) (done a : List ℕ) (found : List ℕ × List ℕ) → unit_at quoted a ≡ Ok found → IsUtf8 (done ++ a) → IsUtf8 ((done ++ found.0) ++ found.1)
utf8_unit quoted done [] found e u = absurd (err_ok _ found e)
utf8_unit quoted done (c ∷ cs) found e u =
    let others = cond (eqb c 60 || not (allowed c)) (err_of (Syntax, length (c ∷ cs))) (unit_ok (plain quoted c ∷ []) cs) in
    elim (chosen (eqb c 38) (referred (length (c ∷ cs)) (reference_at cs)) (cond (eqb c 13) (unit_ok (plain quoted 10 ∷ []) (past_line_feed cs)) others) (ok_of found) e) [
      | inl p ↦ of_reference (reference_at cs) refl (below c 38 p.0 (omega arith)) p.1
      | inr p ↦ elim (chosen (eqb c 13) (unit_ok (plain quoted 10 ∷ []) (past_line_feed cs)) others (ok_of found) p.1) [
        | inl q ↦
            let small = below c 13 q.0 (omega arith) in
            moved (ok_is (plain quoted 10 ∷ [], past_line_feed cs) found q.1)
            (replaced done (plain quoted 10 ∷ []) cs (past_line_feed cs) c small u (one_ascii (plain quoted 10) (plain_ascii quoted 10 (omega arith))) (utf8_line_feed cs (utf8_past done cs c small u)))
        | inr q ↦ elim (chosen (eqb c 60 || not (allowed c)) (err_of (Syntax, length (c ∷ cs))) (unit_ok (plain quoted c ∷ []) cs) (ok_of found) q.1) [
          | inl r ↦ absurd (err_ok _ found r.1)
          | inr r ↦ moved (ok_is (plain quoted c ∷ [], cs) found r.1) (of_byte (cases_lt c 128))
        ]
      ]
    ]
  where
    moved : {f g : List ℕ × List ℕ} → f ≡ g → IsUtf8 ((done ++ f.0) ++ f.1) → IsUtf8 ((done ++ g.0) ++ g.1)
    moved is v = subst (λ (x : List ℕ × List ℕ). IsUtf8 ((done ++ x.0) ++ x.1)) is v

    of_reference : (o : Option (ℕ × List ℕ)) → reference_at cs ≡ o → c < 128 → referred (length (c ∷ cs)) o ≡ Ok found → IsUtf8 ((done ++ found.0) ++ found.1)
    of_reference None is small f = absurd (err_ok _ found f)
    of_reference (Some x) is small f =
        let n = reference_names cs x is (utf8_past done cs c small u) in
        moved (ok_is (encode_utf8 x.0, x.1) found f) (replaced done (encode_utf8 x.0) cs x.1 c small u (IsUtf8-encode x.0 n.scalar) n.utf8)

    of_byte : (c < 128) ⊎ (128 ≤ c) → IsUtf8 ((done ++ plain quoted c ∷ []) ++ cs)
    of_byte (inl small) = replaced done (plain quoted c ∷ []) cs cs c small u (one_ascii (plain quoted c) (plain_ascii quoted c small)) (utf8_past done cs c small u)
    of_byte (inr high) = subst (λ (x : ℕ). IsUtf8 ((done ++ x ∷ []) ++ cs)) (sym (plain_same quoted c high)) (subst IsUtf8 (sym (append_assoc done (c ∷ []) cs)) u)
