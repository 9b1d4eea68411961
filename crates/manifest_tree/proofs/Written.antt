-- What is written of a tree spells it.
use Rattle.std.proofs.Common.{◌≡◌, ℕ, zero, suc, ◌+◌, ◌<◌, ◌≤◌, Bool, true, false, not, cond, List, [], ◌∷◌, ◌++◌, length, Option, Some, None, Ok, refl, sym, ap, subst, ◌∙◌, append_assoc, length-append, arith, inl, inr}
use Rattle.std.specs.Prelude.{◌==◌, ◌&&◌, nat_lt, nat_le, codes, unwrap_or}
use Rattle.std.specs.List.{list_all}
use Rattle.std.specs.Str.{IsUtf8, IsAscii}
use Rattle.std.proofs.lemmas.Bool.{cases_Bool, and_parts, eqb-true, ne_eqb, ltb-true, leb-true, true≢false}
use Rattle.std.proofs.lemmas.Str.{IsUtf8-append, IsUtf8-from_ascii}
use Rattle.manifest_tree.specs.declared.node.Attribute.{Attribute}
use Rattle.manifest_tree.specs.Lexis.{white, allowed, name_first, name_byte, front, past, has_name, name_at, begin, past_declaration, unit_at, reference_at, numbered_at, named_at, digit_of, is_character, plain, quote_at, is_among}
use Rattle.manifest_tree.specs.Tree.{Tree, Trees, tree, none, more}
use Rattle.manifest_tree.specs.Grammar.{nothing, space, Units, no_unit, one_unit, IsAttribute, Attributes, no_attribute, one_attribute, IsStart, IsEnd, Element, empty, full, Content, no_content, data_unit, child, SpellsTree}
use Rattle.manifest_tree.proofs.Cuts.{utf8_front, utf8_past}
use Rattle.manifest_tree.specs.WrittenText.{reference_for, escape, escaped, attribute_text, attributes_text, is_bare, element_text, elements_text, end_text, declaration, written, is_name, is_content, is_attribute, are_attributes, is_element, are_elements, is_writable}

-- ---- the declaration

begins : (rest : List ℕ) → begin (declaration ++ rest) ≡ Ok (10 ∷ rest)
unfolding begin past_declaration white allowed
begins rest = refl

-- ---- ASCII is UTF-8

ascii_at : (bs : List ℕ) → list_all (λ b. nat_lt b 128) bs ≡ true → IsAscii bs
ascii_at [] is i = omega arith
ascii_at (b ∷ bs) is zero = ltb-true b 128 (and_parts (nat_lt b 128) (list_all (λ b. nat_lt b 128) bs) is).0
ascii_at (b ∷ bs) is (suc i) = ascii_at bs (and_parts (nat_lt b 128) (list_all (λ b. nat_lt b 128) bs) is).1 i

pub ascii_utf8 : (bs : List ℕ) → list_all (λ b. nat_lt b 128) bs ≡ true → IsUtf8 bs
ascii_utf8 bs is = IsUtf8-from_ascii bs (ascii_at bs is)

-- ---- units

-- a reference is read as the byte that it stands for
record IsReferred (c : ℕ) (spelling : List ℕ) : Type 0 where
  is_for : reference_for c ≡ Some spelling
  begins_with : (tail : List ℕ) × (spelling ≡ 38 ∷ tail)
  reads : (quoted : Bool) (rest : List ℕ) → unit_at quoted (spelling ++ rest) ≡ Ok (c ∷ [], rest)
  small : c < 128
  ascii : IsUtf8 spelling

ampersand : IsReferred 38 (codes "&amp;")
unfolding reference_for reference_at named_at lib.Utf8.encode
ampersand = record { is_for = refl; begins_with = (_, refl); reads = λ quoted rest. refl; small = omega arith; ascii = ascii_utf8 _ refl }

less : IsReferred 60 (codes "&lt;")
unfolding reference_for reference_at named_at lib.Utf8.encode
less = record { is_for = refl; begins_with = (_, refl); reads = λ quoted rest. refl; small = omega arith; ascii = ascii_utf8 _ refl }

greater : IsReferred 62 (codes "&gt;")
unfolding reference_for reference_at named_at lib.Utf8.encode
greater = record { is_for = refl; begins_with = (_, refl); reads = λ quoted rest. refl; small = omega arith; ascii = ascii_utf8 _ refl }

quotation : IsReferred 34 (codes "&quot;")
unfolding reference_for reference_at named_at lib.Utf8.encode
quotation = record { is_for = refl; begins_with = (_, refl); reads = λ quoted rest. refl; small = omega arith; ascii = ascii_utf8 _ refl }

tab : IsReferred 9 (codes "&#9;")
unfolding reference_for reference_at named_at numbered_at digit_of is_character allowed lib.Utf8.encode
tab = record { is_for = refl; begins_with = (_, refl); reads = λ quoted rest. refl; small = omega arith; ascii = ascii_utf8 _ refl }

line_feed : IsReferred 10 (codes "&#10;")
unfolding reference_for reference_at named_at numbered_at digit_of is_character allowed lib.Utf8.encode
line_feed = record { is_for = refl; begins_with = (_, refl); reads = λ quoted rest. refl; small = omega arith; ascii = ascii_utf8 _ refl }

carriage_return : IsReferred 13 (codes "&#13;")
unfolding reference_for reference_at named_at numbered_at digit_of is_character allowed lib.Utf8.encode
carriage_return = record { is_for = refl; begins_with = (_, refl); reads = λ quoted rest. refl; small = omega arith; ascii = ascii_utf8 _ refl }

-- how a byte is written
data Spelled (c : ℕ) : Type 0 where
  by_reference : (spelling : List ℕ) → IsReferred c spelling → Spelled c
  as_it_is : reference_for c ≡ None → (c == 38) ≡ false → (c == 60) ≡ false → (c == 34) ≡ false → (c == 9) ≡ false → (c == 10) ≡ false → (c == 13) ≡ false → Spelled c

at_byte : (c k : ℕ) (spelling : List ℕ) → (c == k) ≡ true → IsReferred k spelling → Spelled c
at_byte c k spelling same is = by_reference spelling (subst (λ (b : ℕ). IsReferred b spelling) (sym (eqb-true c k same)) is)

spelled : (c : ℕ) → Spelled c
unfolding reference_for
spelled c =
    elim (cases_Bool (c == 38)) [
      | inl p ↦ at_byte c 38 _ p ampersand
      | inr n38 ↦
          elim (cases_Bool (c == 60)) [
            | inl p ↦ at_byte c 60 _ p less
            | inr n60 ↦
                elim (cases_Bool (c == 62)) [
                  | inl p ↦ at_byte c 62 _ p greater
                  | inr n62 ↦
                      elim (cases_Bool (c == 34)) [
                        | inl p ↦ at_byte c 34 _ p quotation
                        | inr n34 ↦
                            elim (cases_Bool (c == 9)) [
                              | inl p ↦ at_byte c 9 _ p tab
                              | inr n9 ↦
                                  elim (cases_Bool (c == 10)) [
                                    | inl p ↦ at_byte c 10 _ p line_feed
                                    | inr n10 ↦
                                        elim (cases_Bool (c == 13)) [
                                          | inl p ↦ at_byte c 13 _ p carriage_return
                                          | inr n13 ↦
                                              as_it_is (rw (n38, n60, n62, n34, n9, n10, n13) refl) n38 n60 n34 n9 n10 n13
                                        ]
                                  ]
                            ]
                      ]
                ]
          ]
    ]

-- a byte that is written is one unit, which does not begin with a quotation mark
record IsUnit (c : ℕ) : Type 0 where
  first : ℕ
  others : List ℕ
  is : escape c ≡ first ∷ others
  unquoted : (first == 34) ≡ false
  reads : (quoted : Bool) (rest : List ℕ) → unit_at quoted (first ∷ (others ++ rest)) ≡ Ok (c ∷ [], rest)

unit_plain : (quoted : Bool) (c : ℕ) (rest : List ℕ) → allowed c ≡ true → (c == 38) ≡ false → (c == 60) ≡ false → (c == 9) ≡ false → (c == 10) ≡ false → (c == 13) ≡ false
    → unit_at quoted (c ∷ rest) ≡ Ok (c ∷ [], rest)
unfolding plain
unit_plain true c rest is n38 n60 n9 n10 n13 = rw (n38, n13, n60, is, n9, n10) refl
unit_plain false c rest is n38 n60 n9 n10 n13 = rw (n38, n13, n60, is) refl

unit_of : (c : ℕ) → allowed c ≡ true → Spelled c → IsUnit c
unit_of c is (by_reference spelling p) =
    let t = p.begins_with in
    record {
      first = 38;
      others = t.0;
      is = ap (λ (o : Option (List ℕ)). unwrap_or o (c ∷ [])) p.is_for ∙ t.1;
      unquoted = refl;
      reads = λ quoted rest. subst (λ (s : List ℕ). unit_at quoted (s ++ rest) ≡ Ok (c ∷ [], rest)) t.1 (p.reads quoted rest);
    }
unit_of c is (as_it_is p n38 n60 n34 n9 n10 n13) =
    record {
      first = c;
      others = [];
      is = ap (λ (o : Option (List ℕ)). unwrap_or o (c ∷ [])) p;
      unquoted = n34;
      reads = λ quoted rest. unit_plain quoted c rest is n38 n60 n9 n10 n13;
    }

unit : (c : ℕ) → allowed c ≡ true → IsUnit c
unit c is = unit_of c is (spelled c)

-- what follows a unit
regroup : (e : List ℕ) (first : ℕ) (others v rest : List ℕ) → e ≡ first ∷ others → (e ++ v) ++ rest ≡ first ∷ (others ++ (v ++ rest))
regroup e first others v rest is = append_assoc e v rest ∙ ap (λ (l : List ℕ). l ++ (v ++ rest)) is

units : (v rest : List ℕ) → is_content v ≡ true → Units 34 (escaped v ++ 34 ∷ rest) v (34 ∷ rest)
units [] rest is = no_unit
units (c ∷ v) rest is =
    let parts = and_parts (allowed c) (is_content v) is in
    let u = unit c parts.0 in
    subst (λ (l : List ℕ). Units 34 l (c ∷ v) (34 ∷ rest)) (sym (regroup (escape c) u.first u.others (escaped v) (34 ∷ rest) u.is))
    (one_unit u.unquoted (u.reads true (escaped v ++ 34 ∷ rest)) (units v rest parts.1) refl)

-- text, and what follows it
data_units : (level : ℕ) (text after rest : List ℕ) (children : Trees) → is_content text ≡ true → Content level after children [] rest → Content level (escaped text ++ after) children text rest
data_units level [] after rest children is content = content
data_units level (c ∷ text) after rest children is content =
    let parts = and_parts (allowed c) (is_content text) is in
    let u = unit c parts.0 in
    subst (λ (l : List ℕ). Content level l children (c ∷ text) rest) (sym (regroup (escape c) u.first u.others (escaped text) after u.is))
    (data_unit (u.reads false (escaped text ++ after)) (data_units level text after rest children parts.1 content) refl)

-- What is escaped stays UTF-8; the run has the bytes before it, up to the last that is written as a reference.
spelled_behind : (run v : List ℕ) (c : ℕ) → Spelled c → ((r : List ℕ) → IsUtf8 (r ++ v) → IsUtf8 (r ++ escaped v)) → IsUtf8 (run ++ c ∷ v) → IsUtf8 (run ++ (escape c ++ escaped v))
spelled_behind run v c (by_reference spelling p) others u =
    subst (λ (o : Option (List ℕ)). IsUtf8 (run ++ (unwrap_or o (c ∷ []) ++ escaped v))) (sym p.is_for)
    (IsUtf8-append run (spelling ++ escaped v) (utf8_front run v c p.small u) (IsUtf8-append spelling (escaped v) p.ascii (others [] (utf8_past run v c p.small u))))
spelled_behind run v c (as_it_is p n38 n60 n34 n9 n10 n13) others u =
    subst (λ (o : Option (List ℕ)). IsUtf8 (run ++ (unwrap_or o (c ∷ []) ++ escaped v))) (sym p)
    (subst IsUtf8 (append_assoc run (c ∷ []) (escaped v)) (others (run ++ c ∷ []) (subst IsUtf8 (sym (append_assoc run (c ∷ []) v)) u)))

escaped_behind : (run v : List ℕ) → IsUtf8 (run ++ v) → IsUtf8 (run ++ escaped v)
escaped_behind run [] u = u
escaped_behind run (c ∷ v) u = spelled_behind run v c (spelled c) (λ r. escaped_behind r v) u

pub escaped_utf8 : (v : List ℕ) → IsUtf8 v → IsUtf8 (escaped v)
escaped_utf8 v u = escaped_behind [] v u

-- ---- names

-- no name goes on here
record StopsName (rest : List ℕ) : Type 0 where
  fronts : front name_byte rest ≡ []
  pasts : past name_byte rest ≡ rest

name_front : (name rest : List ℕ) → list_all name_byte name ≡ true → StopsName rest → name_at (name ++ rest) ≡ name
name_front [] rest is stops = stops.fronts
name_front (c ∷ cs) rest is stops =
    let parts = and_parts (name_byte c) (list_all name_byte cs) is in
    rw parts.0 (ap (λ (l : List ℕ). c ∷ l) (name_front cs rest parts.1 stops))

name_past : (name rest : List ℕ) → list_all name_byte name ≡ true → StopsName rest → past name_byte (name ++ rest) ≡ rest
name_past [] rest is stops = stops.pasts
name_past (c ∷ cs) rest is stops =
    let parts = and_parts (name_byte c) (list_all name_byte cs) is in
    rw parts.0 (name_past cs rest parts.1 stops)

name_begins : (name rest : List ℕ) → has_name name ≡ true → has_name (name ++ rest) ≡ true
name_begins [] rest is = absurd cc
name_begins (c ∷ cs) rest is = is

unwhite : (c k : ℕ) → (c == k) ≡ true → name_first c ≡ true → name_first k ≡ true
unwhite c k same is = subst (λ (b : ℕ). name_first b ≡ true) (eqb-true c k same) is

name_solid : (c : ℕ) → name_first c ≡ true → white c ≡ false
unfolding white name_first
name_solid c is =
    elim (cases_Bool (c == 32)) [
      | inl p ↦ absurd (true≢false (sym (unwhite c 32 p is)))
      | inr n32 ↦
          elim (cases_Bool (c == 9)) [
            | inl p ↦ absurd (true≢false (sym (unwhite c 9 p is)))
            | inr n9 ↦
                elim (cases_Bool (c == 10)) [
                  | inl p ↦ absurd (true≢false (sym (unwhite c 10 p is)))
                  | inr n10 ↦
                      elim (cases_Bool (c == 13)) [
                        | inl p ↦ absurd (true≢false (sym (unwhite c 13 p is)))
                        | inr n13 ↦
                            rw (n32, n9, n10, n13) refl
                      ]
                ]
          ]
    ]

-- behind white space stands the name
past_space : (name rest : List ℕ) → has_name name ≡ true → past white (32 ∷ (name ++ rest)) ≡ name ++ rest
unfolding white
past_space [] rest is = absurd cc
past_space (c ∷ cs) rest is = rw (name_solid c is) refl

-- ---- tags

stop_equals : (rest : List ℕ) → StopsName (61 ∷ rest)
unfolding name_byte name_first
stop_equals rest = record { fronts = refl; pasts = refl }

stop_space : (rest : List ℕ) → StopsName (32 ∷ rest)
unfolding name_byte name_first
stop_space rest = record { fronts = refl; pasts = refl }

stop_slash : (rest : List ℕ) → StopsName (47 ∷ rest)
unfolding name_byte name_first
stop_slash rest = record { fronts = refl; pasts = refl }

stop_greater : (rest : List ℕ) → StopsName (62 ∷ rest)
unfolding name_byte name_first
stop_greater rest = record { fronts = refl; pasts = refl }

quote_opens : (rest : List ℕ) → quote_at (61 ∷ 34 ∷ rest) ≡ Ok (34, rest)
unfolding quote_at white
quote_opens rest = refl

-- an attribute, and what follows it
attribute_at : (name value rest : List ℕ) → is_name name ≡ true → is_content value ≡ true
    → IsAttribute (32 ∷ (name ++ (61 ∷ 34 ∷ (escaped value ++ 34 ∷ rest)))) (record { name = name; value = value }) rest
attribute_at name value rest named is =
    let parts = and_parts (has_name name) (list_all name_byte name) named in
    let inside = escaped value ++ 34 ∷ rest in
    let bytes = name ++ (61 ∷ 34 ∷ inside) in
    let behind = past_space name (61 ∷ 34 ∷ inside) parts.0 in
    let ended = name_past name (61 ∷ 34 ∷ inside) parts.1 (stop_equals (34 ∷ inside)) in
    record {
      spaced = subst (λ (l : List ℕ). (length l == length (32 ∷ bytes)) ≡ false) (sym behind) (ne_eqb (length bytes) (suc (length bytes)) (omega arith));
      named = subst (λ (l : List ℕ). has_name l ≡ true) (sym behind) (name_begins name (61 ∷ 34 ∷ inside) parts.0);
      name = subst (λ (l : List ℕ). name ≡ name_at l) (sym behind) (sym (name_front name (61 ∷ 34 ∷ inside) parts.1 (stop_equals (34 ∷ inside))));
      quote = 34;
      inside = inside;
      opened = subst (λ (l : List ℕ). quote_at (past name_byte l) ≡ Ok (34, inside)) (sym behind) (subst (λ (l : List ℕ). quote_at l ≡ Ok (34, inside)) (sym ended) (quote_opens inside));
      value = units value rest is;
    }

attribute_regroup : (name value rest : List ℕ) → (32 ∷ (name ++ (61 ∷ 34 ∷ (value ++ 34 ∷ [])))) ++ rest ≡ 32 ∷ (name ++ (61 ∷ 34 ∷ (value ++ 34 ∷ rest)))
attribute_regroup name value rest = ap (λ (l : List ℕ). 32 ∷ l) (append_assoc name (61 ∷ 34 ∷ (value ++ 34 ∷ [])) rest ∙ ap (λ (l : List ℕ). name ++ (61 ∷ 34 ∷ l)) (append_assoc value (34 ∷ []) rest))

not_true : (b : Bool) → not b ≡ true → b ≡ false
not_true true is = absurd (true≢false (sym is))
not_true false is = refl

attributes : (names : List (List ℕ)) (others : List Attribute) (rest : List ℕ) → are_attributes names others ≡ true → Attributes names (attributes_text others ++ rest) others rest
attributes names [] rest is = no_attribute
attributes names (a ∷ others) rest is =
    let p = and_parts (is_attribute names a) (are_attributes (names ++ a.name ∷ []) others) is in
    let q = and_parts (is_name a.name) (is_content a.value && not (is_among names a.name)) p.0 in
    let r = and_parts (is_content a.value) (not (is_among names a.name)) q.1 in
    let behind = attributes_text others ++ rest in
    let whole : (attribute_text a ++ attributes_text others) ++ rest ≡ 32 ∷ (a.name ++ (61 ∷ 34 ∷ (escaped a.value ++ 34 ∷ behind))) =
    append_assoc (attribute_text a) (attributes_text others) rest ∙ attribute_regroup a.name (escaped a.value) behind in
    subst (λ (l : List ℕ). Attributes names l (a ∷ others) rest) (sym whole)
    (one_attribute (attribute_at a.name a.value behind q.0 r.0) (not_true (is_among names a.name) r.1) (attributes (names ++ a.name ∷ []) others rest p.1))

-- what follows a tag's name
stop_attributes : (others : List Attribute) (rest : List ℕ) → StopsName rest → StopsName (attributes_text others ++ rest)
stop_attributes [] rest stops = stops
stop_attributes (a ∷ others) rest stops = stop_space _

start_tag : (name : List ℕ) (others : List Attribute) (rest : List ℕ) → is_name name ≡ true → are_attributes [] others ≡ true → StopsName rest → IsStart (name ++ (attributes_text others ++ rest)) name others rest
start_tag name others rest named are stops =
    let parts = and_parts (has_name name) (list_all name_byte name) named in
    let behind = attributes_text others ++ rest in
    let next = stop_attributes others rest stops in
    record {
      named = name_begins name behind parts.0;
      name_is = sym (name_front name behind parts.1 next);
      attributes_are = subst (λ (l : List ℕ). Attributes [] l others rest) (sym (name_past name behind parts.1 next)) (attributes [] others rest are);
    }

end_tag : (name rest : List ℕ) → is_name name ≡ true → IsEnd (name ++ 62 ∷ rest) name rest
unfolding white
end_tag name rest named =
    let parts = and_parts (has_name name) (list_all name_byte name) named in
    record {
      named = name_begins name (62 ∷ rest) parts.0;
      name_is = name_front name (62 ∷ rest) parts.1 (stop_greater rest);
      ended = ap (past white) (name_past name (62 ∷ rest) parts.1 (stop_greater rest));
    }

-- ---- elements

-- the bytes of an element's content and its end tag
abbrev content_text : (name text : List ℕ) → Trees → List ℕ
content_text name text children = escaped text ++ (elements_text children ++ end_text name)

abbrev ending : (name text : List ℕ) → Trees → List ℕ
ending name text children = cond (is_bare children text) (codes "/>") (62 ∷ content_text name text children)

content_regroup : (name text inner rest : List ℕ) → (text ++ (inner ++ (codes "</" ++ (name ++ codes ">")))) ++ rest ≡ text ++ (inner ++ (60 ∷ 47 ∷ (name ++ 62 ∷ rest)))
content_regroup name text inner rest =
    append_assoc text (inner ++ (codes "</" ++ (name ++ codes ">"))) rest
    ∙ ap (λ (l : List ℕ). text ++ l) (append_assoc inner (codes "</" ++ (name ++ codes ">")) rest ∙ ap (λ (l : List ℕ). inner ++ (60 ∷ 47 ∷ l)) (append_assoc name (62 ∷ []) rest))

module _ (level : ℕ) (shallow : level ≤ 64) (name : List ℕ) (others : List Attribute) (rest : List ℕ) (named : is_name name ≡ true) (are : are_attributes [] others ≡ true) where
  bare_element : Element level (60 ∷ (name ++ (attributes_text others ++ (47 ∷ 62 ∷ rest)))) (tree name others none []) rest
  unfolding white
  bare_element = empty shallow (start_tag name others (47 ∷ 62 ∷ rest) named are (stop_slash (62 ∷ rest))) refl

  full_element : (children : Trees) (text : List ℕ) → is_content text ≡ true → Content (suc level) (elements_text children ++ (60 ∷ 47 ∷ (name ++ 62 ∷ rest))) children [] (60 ∷ 47 ∷ (name ++ 62 ∷ rest))
      → Element level (60 ∷ (name ++ (attributes_text others ++ (62 ∷ (content_text name text children ++ rest))))) (tree name others children text) rest
  unfolding white
  full_element children text is inner =
      let inside = content_text name text children ++ rest in
      full shallow (start_tag name others (62 ∷ inside) named are (stop_greater inside)) refl
      (subst (λ (l : List ℕ). Content (suc level) l children text (60 ∷ 47 ∷ (name ++ 62 ∷ rest))) (sym (content_regroup name (escaped text) (elements_text children) rest))
      (data_units (suc level) text (elements_text children ++ (60 ∷ 47 ∷ (name ++ 62 ∷ rest))) (60 ∷ 47 ∷ (name ++ 62 ∷ rest)) children is inner))
      (end_tag name rest named)

  any_element : (children : Trees) (text : List ℕ) → is_content text ≡ true → Content (suc level) (elements_text children ++ (60 ∷ 47 ∷ (name ++ 62 ∷ rest))) children [] (60 ∷ 47 ∷ (name ++ 62 ∷ rest))
      → Element level (60 ∷ (name ++ (attributes_text others ++ (ending name text children ++ rest)))) (tree name others children text) rest
  any_element none [] is inner = bare_element
  any_element none (c ∷ text) is inner = full_element none (c ∷ text) is inner
  any_element (more t ts) text is inner = full_element (more t ts) text is inner

element_regroup : (name others end rest : List ℕ) → ((60 ∷ (name ++ others)) ++ end) ++ rest ≡ 60 ∷ (name ++ (others ++ (end ++ rest)))
element_regroup name others end rest = append_assoc (60 ∷ (name ++ others)) end rest ∙ ap (λ (l : List ℕ). 60 ∷ l) (append_assoc name others (end ++ rest))

mutual
  element : (level : ℕ) (t : Tree) (rest : List ℕ) → is_element level t ≡ true → Element level (element_text t ++ rest) t rest
  element level (tree name others children text) rest is =
      let p = and_parts (nat_le level 64) (is_name name && (are_attributes [] others && (is_content text && are_elements (suc level) children))) is in
      let q = and_parts (is_name name) (are_attributes [] others && (is_content text && are_elements (suc level) children)) p.1 in
      let r = and_parts (are_attributes [] others) (is_content text && are_elements (suc level) children) q.1 in
      let s = and_parts (is_content text) (are_elements (suc level) children) r.1 in
      subst (λ (l : List ℕ). Element level l (tree name others children text) rest) (sym (element_regroup name (attributes_text others) (ending name text children) rest))
      (any_element level (leb-true level 64 p.0) name others rest q.0 r.0 children text s.0 (elements (suc level) children (60 ∷ 47 ∷ (name ++ 62 ∷ rest)) s.1))

  elements : (level : ℕ) (ts : Trees) (rest : List ℕ) → are_elements level ts ≡ true → Content level (elements_text ts ++ rest) ts [] rest
  elements level none rest is = no_content
  elements level (more t ts) rest is =
      let parts = and_parts (is_element level t) (are_elements level ts) is in
      subst (λ (l : List ℕ). Content level l (more t ts) [] rest) (sym (append_assoc (element_text t) (elements_text ts) rest))
      (child (element level t (elements_text ts ++ rest) parts.0) (elements level ts rest parts.1))

-- ---- the pieces are UTF-8

pub text_utf8 : (text : List ℕ) → IsUtf8 text → IsUtf8 (62 ∷ escaped text)
text_utf8 text u = IsUtf8-append (62 ∷ []) (escaped text) (ascii_utf8 (62 ∷ []) refl) (escaped_utf8 text u)

pub start_utf8 : (name behind : List ℕ) → IsUtf8 name → IsUtf8 behind → IsUtf8 (60 ∷ (name ++ behind))
start_utf8 name behind u v = IsUtf8-append (60 ∷ []) (name ++ behind) (ascii_utf8 (60 ∷ []) refl) (IsUtf8-append name behind u v)

pub end_utf8 : (name : List ℕ) → IsUtf8 name → IsUtf8 (codes "</" ++ (name ++ codes ">"))
end_utf8 name u = IsUtf8-append (codes "</") (name ++ codes ">") (ascii_utf8 (codes "</") refl) (IsUtf8-append name (codes ">") u (ascii_utf8 (codes ">") refl))

pub attribute_utf8 : (a : Attribute) → IsUtf8 a.name → IsUtf8 a.value → IsUtf8 (attribute_text a)
attribute_utf8 a u v =
    IsUtf8-append (32 ∷ []) (a.name ++ (codes "=\"" ++ (escaped a.value ++ codes "\""))) (ascii_utf8 (32 ∷ []) refl)
    (IsUtf8-append a.name (codes "=\"" ++ (escaped a.value ++ codes "\"")) u
    (IsUtf8-append (codes "=\"") (escaped a.value ++ codes "\"") (ascii_utf8 (codes "=\"") refl)
    (IsUtf8-append (escaped a.value) (codes "\"") (escaped_utf8 a.value v) (ascii_utf8 (codes "\"") refl))))

pub bare_utf8 : (start : List ℕ) → IsUtf8 start → IsUtf8 (start ++ codes "/>")
bare_utf8 start u = IsUtf8-append start (codes "/>") u (ascii_utf8 (codes "/>") refl)

-- ---- the whole

declaration_utf8 : IsUtf8 declaration
declaration_utf8 = ascii_utf8 declaration refl

pub written_pushed : (t : Tree) (o p q r : List ℕ) → o ≡ [] → p ≡ o ++ declaration → q ≡ p ++ element_text t → r ≡ q ++ codes "\n" → r ≡ written t
unfolding written
written_pushed t o p q r is_o is_p is_q is_r =
    is_r ∙ ap (λ (l : List ℕ). l ++ codes "\n") (is_q ∙ ap (λ (l : List ℕ). l ++ element_text t) (is_p ∙ ap (λ (l : List ℕ). l ++ declaration) is_o))
    ∙ append_assoc declaration (element_text t) (codes "\n")

pub length-written : (t : Tree) → length (written t) ≡ 40 + length (element_text t)
unfolding written
length-written t = omega (arith, length-append declaration (element_text t ++ codes "\n"), length-append (element_text t) (codes "\n"))

pub spells : (t : Tree) → is_writable t ≡ true → IsUtf8 (element_text t) → length (written t) ≤ 4194304 → SpellsTree (written t) t
unfolding written white
spells t is utf8 short =
    record {
      short = short;
      utf8 = IsUtf8-append declaration (element_text t ++ 10 ∷ []) declaration_utf8 (IsUtf8-append (element_text t) (10 ∷ []) utf8 (ascii_utf8 (10 ∷ []) refl));
      start = 10 ∷ (element_text t ++ 10 ∷ []);
      begun = begins (element_text t ++ 10 ∷ []);
      root = element_text t ++ 10 ∷ [];
      before = space refl nothing;
      end = 10 ∷ [];
      element = element 1 t (10 ∷ []) is;
      after = space refl nothing;
    }
