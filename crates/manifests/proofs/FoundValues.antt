-- What is found in a tree whose values are of bytes that a manifest may hold.
use Rattle.std.proofs.Common.{◌≡◌, ℕ, suc, ◌≤◌, Bool, true, false, cond, List, [], ◌∷◌, length, Option, Some, None, Ok, Err, refl, arith}
use Rattle.std.specs.Prelude.{◌&&◌, nat_le, All, IfSome, IfOk, option_map, if◌then◌else◌}
use Rattle.std.specs.List.{find, flat_map}
use Rattle.std.proofs.lemmas.Bool.{and_parts, leb-true}
use Rattle.std.proofs.lemmas.List.Elements.{All-nil, All-cons, All-append, All-filter}
use Rattle.small_types.specs.Outcome.{◌>>=◌}
use Rattle.manifest_tree.specs.declared.node.Attribute.{Attribute}
use Rattle.manifest_tree.specs.Tree.{Tree, Trees, tree, none, more}
use Rattle.manifest_tree.specs.WrittenText.{is_content}
use Rattle.manifest_parts.specs.declared.fault.ManifestFault.{ManifestFault}
use Rattle.manifest_parts.specs.Elements.{Read, listed, children_of, is_attribute, value_of, attribute, called, children_called, first_called, one_of, once}
use Rattle.manifest_parts.specs.Values.{needed, filled, within, or_default, defaulted}
use Rattle.manifests.specs.Facts.{IsValue}
use Rattle.manifests.proofs.SpelledValues.{are_values, is_held, are_held}

abbrev pub IsContent : List ℕ → Type 0
IsContent value = is_content value ≡ true

abbrev pub IsHeld : Tree → Type 0
IsHeld t = is_held t ≡ true

-- ---- readings

-- what is read behind a part that was read
pub then_ok : {A B : Type 0} (P : A → Type 0) (Q : B → Type 0) (r : Read A) (f : A → Read B) → IfOk r P → ((x : A) → P x → IfOk (f x) Q) → IfOk (r >>= f) Q
then_ok P Q (Ok x) f p q = q x p
then_ok P Q (Err e) f p q = tt

-- what is read by a test
pub test_ok : {A : Type 0} (P : A → Type 0) (b : Bool) (x : A) (e : ManifestFault) → (b ≡ true → P x) → IfOk (if b then Ok x else Err e) P
test_ok P true x e p = p refl
test_ok P false x e p = tt

-- what is read where a test fails
pub other_ok : {A : Type 0} (P : A → Type 0) (b : Bool) (e : ManifestFault) (r : Read A) → (b ≡ false → IfOk r P) → IfOk (if b then Err e else r) P
other_ok P true e r p = tt
other_ok P false e r p = p refl

-- ---- attributes

found_held : (b : Bool) (a : Attribute) (o : Option Attribute) → IsContent a.value → IfSome (option_map (λ (x : Attribute). x.value) o) IsContent
    → IfSome (option_map (λ (x : Attribute). x.value) (cond b (Some a) o)) IsContent
found_held true a o here others = here
found_held false a o here others = others

values_held : (wanted : List ℕ) (attributes : List Attribute) → are_values attributes ≡ true → IfSome (value_of wanted attributes) IsContent
unfolding value_of
values_held wanted [] h = tt
values_held wanted (a ∷ others) h =
    let p = and_parts (is_content a.value) (are_values others) h in
    found_held (is_attribute wanted a) a (find (is_attribute wanted) others) p.0 (values_held wanted others p.1)

pub attribute_held : (wanted : List ℕ) (t : Tree) → IsHeld t → IfSome (attribute wanted t) IsContent
attribute_held wanted (tree name attributes children text) h = values_held wanted attributes (and_parts (are_values attributes) (are_held children) h).0

-- ---- elements

listed_held : (ts : Trees) → are_held ts ≡ true → All IsHeld (listed ts)
listed_held none h = All-nil IsHeld
listed_held (more t ts) h = let p = and_parts (is_held t) (are_held ts) h in All-cons IsHeld t (listed ts) p.0 (listed_held ts p.1)

pub children_held : (t : Tree) → IsHeld t → All IsHeld (children_of t)
children_held (tree name attributes children text) h = listed_held children (and_parts (are_values attributes) (are_held children) h).1

pub called_held : (wanted : List ℕ) (t : Tree) → IsHeld t → All IsHeld (children_called wanted t)
unfolding children_called
called_held wanted t h = All-filter (called wanted) IsHeld (children_of t) (children_held t h)

first_of_two : (b : Bool) (t : Tree) (o : Option Tree) → IsHeld t → IfSome o IsHeld → IfSome (cond b (Some t) o) IsHeld
first_of_two true t o here others = here
first_of_two false t o here others = others

find_held : (p : Tree → Bool) (ts : List Tree) → All IsHeld ts → IfSome (find p ts) IsHeld
find_held p [] h = tt
find_held p (t ∷ ts) h = first_of_two (p t) t (find p ts) (h 0 t (omega arith)) (find_held p ts (λ k d lt. h (suc k) d (omega arith)))

pub first_held : (wanted : List ℕ) (t : Tree) → IsHeld t → IfSome (first_called wanted t) IsHeld
unfolding first_called
first_held wanted t h = find_held (called wanted) (children_of t) (children_held t h)

one_held : (what : List ℕ) (ts : List Tree) → All IsHeld ts → IfOk (one_of what ts) IsHeld
one_held what [] h = tt
one_held what (t ∷ []) h = h 0 t (omega arith)
one_held what (t ∷ u ∷ ts) h = tt

pub once_held : (what : List ℕ) (t : Tree) → IsHeld t → IfOk (once what t) IsHeld
unfolding once
once_held what t h = one_held what (children_called what t) (called_held what t h)

pub all_inside : (f : Tree → List Tree) → ((t : Tree) → IsHeld t → All IsHeld (f t)) → (ts : List Tree) → All IsHeld ts → All IsHeld (flat_map f ts)
all_inside f each [] h = All-nil IsHeld
all_inside f each (t ∷ ts) h = All-append IsHeld (f t) (flat_map f ts) (each t (h 0 t (omega arith))) (all_inside f each ts (λ k d lt. h (suc k) d (omega arith)))

-- ---- values

pub needed_held : (what : List ℕ) (o : Option (List ℕ)) → IfSome o IsContent → IfOk (needed what o) IsContent
needed_held what None h = tt
needed_held what (Some value) h = h

pub filled_is : (most : ℕ) (what value : List ℕ) → IsContent value → IfOk (filled most what value) (IsValue 1 most)
unfolding filled
filled_is most what value h =
    test_ok (IsValue 1 most) (nat_le 1 (length value) && nat_le (length value) most) value _ (λ is.
    let p = and_parts (nat_le 1 (length value)) (nat_le (length value) most) is in
    record { some = leb-true 1 (length value) p.0; few = leb-true (length value) most p.1; allowed = h })

pub none_is : (most : ℕ) → IsValue 0 most []
none_is most = record { some = omega arith; few = omega arith; allowed = refl }

pub within_is : (most : ℕ) (what : List ℕ) (o : Option (List ℕ)) → IfSome o IsContent → IfOk (within most what o) (IsValue 0 most)
unfolding within
within_is most what None h = none_is most
within_is most what (Some value) h =
    test_ok (IsValue 0 most) (nat_le (length value) most) value _ (λ is. record { some = omega arith; few = leb-true (length value) most is; allowed = h })

given_or_default : (least most : ℕ) (default given : List ℕ) → least ≤ 1 → IsValue least most default → IsValue 0 most given → IsValue least most (or_default given default)
given_or_default least most default [] one d g = d
given_or_default least most default (c ∷ cs) one d g = record { some = omega arith; few = g.few; allowed = g.allowed }

pub defaulted_is : (least most : ℕ) (what default : List ℕ) (o : Option (List ℕ)) → least ≤ 1 → IsValue least most default → IfSome o IsContent
    → IfOk (defaulted most what default o) (IsValue least most)
unfolding defaulted
defaulted_is least most what default o one d h =
    then_ok (IsValue 0 most) (IsValue least most) (within most what o) _ (within_is most what o h) (λ given g. given_or_default least most default given one d g)
