-- What is found in a tree whose attributes have values of UTF-8.
use Rattle.std.proofs.Common.{◌≡◌, ℕ, suc, Bool, true, false, cond, List, [], ◌∷◌, length, All, Option, Some, None, IfSome, IfOk, IsUtf8, refl, arith}
use Rattle.std.specs.Prelude.{◌&&◌, nat_le, nat_lt, option_map}
use Rattle.std.specs.List.{find, flat_map, list_all}
use Rattle.std.specs.Str.{IsAscii}
use Rattle.std.proofs.lemmas.Bool.{and_parts, ltb-true}
use Rattle.std.proofs.lemmas.List.Elements.{All-nil, All-cons, All-append, All-filter}
use Rattle.std.proofs.lemmas.Str.{IsUtf8-from_ascii}
use Rattle.std.proofs.lemmas.Str.Ascii.{IsAscii-cons, IsAscii-nil}
use Rattle.manifest_tree.specs.declared.node.Attribute.{Attribute}
use Rattle.manifest_tree.specs.Tree.{Tree, Trees, tree, none, more}
use Rattle.manifest_parts.specs.Elements.{listed, children_of, is_attribute, value_of, attribute, called, children_called, first_called, one_of, once}
use Rattle.manifest_parts.specs.Values.{needed, filled, within, or_default, defaulted}
use Rattle.manifests.proofs.FoundValues.{then_ok, test_ok}
use Rattle.machine.proofs.TreeTexts.{AreTexts, HasTexts, HaveTexts}

-- ---- attributes

found_text : (b : Bool) (a : Attribute) (o : Option Attribute) → IsUtf8 a.value → IfSome (option_map (λ (x : Attribute). x.value) o) IsUtf8
    → IfSome (option_map (λ (x : Attribute). x.value) (cond b (Some a) o)) IsUtf8
found_text true a o here others = here
found_text false a o here others = others

values_texts : (wanted : List ℕ) (attributes : List Attribute) → AreTexts attributes → IfSome (value_of wanted attributes) IsUtf8
unfolding value_of
values_texts wanted [] h = tt
values_texts wanted (a ∷ others) h = found_text (is_attribute wanted a) a (find (is_attribute wanted) others) h.0 (values_texts wanted others h.1)

pub attribute_text : (wanted : List ℕ) (t : Tree) → HasTexts t → IfSome (attribute wanted t) IsUtf8
attribute_text wanted (tree name attributes children text) h = values_texts wanted attributes h.0

-- ---- elements

listed_texts : (ts : Trees) → HaveTexts ts → All HasTexts (listed ts)
listed_texts none h = All-nil HasTexts
listed_texts (more t ts) h = All-cons HasTexts t (listed ts) h.0 (listed_texts ts h.1)

pub children_texts : (t : Tree) → HasTexts t → All HasTexts (children_of t)
children_texts (tree name attributes children text) h = listed_texts children h.1

pub called_texts : (wanted : List ℕ) (t : Tree) → HasTexts t → All HasTexts (children_called wanted t)
unfolding children_called
called_texts wanted t h = All-filter (called wanted) HasTexts (children_of t) (children_texts t h)

first_of_two : (b : Bool) (t : Tree) (o : Option Tree) → HasTexts t → IfSome o HasTexts → IfSome (cond b (Some t) o) HasTexts
first_of_two true t o here others = here
first_of_two false t o here others = others

find_texts : (p : Tree → Bool) (ts : List Tree) → All HasTexts ts → IfSome (find p ts) HasTexts
find_texts p [] h = tt
find_texts p (t ∷ ts) h = first_of_two (p t) t (find p ts) (h 0 t (omega arith)) (find_texts p ts (λ k d lt. h (suc k) d (omega arith)))

pub first_texts : (wanted : List ℕ) (t : Tree) → HasTexts t → IfSome (first_called wanted t) HasTexts
unfolding first_called
first_texts wanted t h = find_texts (called wanted) (children_of t) (children_texts t h)

one_texts : (what : List ℕ) (ts : List Tree) → All HasTexts ts → IfOk (one_of what ts) HasTexts
one_texts what [] h = tt
one_texts what (t ∷ []) h = h 0 t (omega arith)
one_texts what (t ∷ u ∷ ts) h = tt

pub once_texts : (what : List ℕ) (t : Tree) → HasTexts t → IfOk (once what t) HasTexts
unfolding once
once_texts what t h = one_texts what (children_called what t) (called_texts what t h)

pub all_texts : (f : Tree → List Tree) → ((t : Tree) → HasTexts t → All HasTexts (f t)) → (ts : List Tree) → All HasTexts ts → All HasTexts (flat_map f ts)
all_texts f each [] h = All-nil HasTexts
all_texts f each (t ∷ ts) h = All-append HasTexts (f t) (flat_map f ts) (each t (h 0 t (omega arith))) (all_texts f each ts (λ k d lt. h (suc k) d (omega arith)))

-- ---- values

pub needed_text : (what : List ℕ) (o : Option (List ℕ)) → IfSome o IsUtf8 → IfOk (needed what o) IsUtf8
needed_text what None h = tt
needed_text what (Some value) h = h

pub filled_text : (most : ℕ) (what value : List ℕ) → IsUtf8 value → IfOk (filled most what value) IsUtf8
unfolding filled
filled_text most what value h = test_ok IsUtf8 (nat_le 1 (length value) && nat_le (length value) most) value _ (λ is. h)

ascii : (bytes : List ℕ) → list_all (λ b. nat_lt b 128) bytes ≡ true → IsAscii bytes
ascii [] e = IsAscii-nil
ascii (b ∷ bytes) e =
    let p = and_parts (nat_lt b 128) (list_all (λ b. nat_lt b 128) bytes) e in
    IsAscii-cons b bytes (ltb-true b 128 p.0) (ascii bytes p.1)

-- bytes below 128 are UTF-8
pub ascii_text : (bytes : List ℕ) → list_all (λ b. nat_lt b 128) bytes ≡ true → IsUtf8 bytes
ascii_text bytes e = IsUtf8-from_ascii bytes (ascii bytes e)

pub within_text : (most : ℕ) (what : List ℕ) (o : Option (List ℕ)) → IfSome o IsUtf8 → IfOk (within most what o) IsUtf8
unfolding within
within_text most what None h = ascii_text [] refl
within_text most what (Some value) h = test_ok IsUtf8 (nat_le (length value) most) value _ (λ is. h)

given_or_default : (default given : List ℕ) → IsUtf8 default → IsUtf8 given → IsUtf8 (or_default given default)
given_or_default default [] d g = d
given_or_default default (c ∷ cs) d g = g

pub defaulted_text : (most : ℕ) (what default : List ℕ) (o : Option (List ℕ)) → IsUtf8 default → IfSome o IsUtf8 → IfOk (defaulted most what default o) IsUtf8
unfolding defaulted
defaulted_text most what default o d h = then_ok IsUtf8 IsUtf8 (within most what o) _ (within_text most what o h) (λ given g. given_or_default default given d g)
