-- The names of a tag's attributes, the later of which stand in a map too.
use Rattle.std.proofs.Common.{◌≡◌, ℕ, ◌<◌, ◌≤◌, Bool, true, false, cond, List, [], ◌∷◌, ◌++◌, length, take, drop, Some, refl, sym, ap, ◌∙◌, arith, inl, inr}
use Rattle.std.specs.Prelude.{◌||◌, nat_lt, is_some, if◌then◌else◌}
use Rattle.std.specs.Str.{bytes_eq}
use Rattle.std.specs.Borrow.{Bor}
use Rattle.std.specs.BTreeMap.{BTreeMap, get_by, UpdatesBy, IsEmpty, is_at}
use Rattle.std.specs.Cmp.Lexicographic.{slice_cmp}
use Rattle.std.specs.Ordering.{nat_cmp}
use Rattle.std.specs.Map.{lookup}
use Rattle.std.proofs.Math.ListN.{drop_of_length-le}
use Rattle.std.proofs.lemmas.Bool.{cases_Bool, ltb-true, ltb-false}
use Rattle.std.proofs.lemmas.List.{take-append-drop, drop-append-le, map-append, length_push}
use Rattle.std.proofs.lemmas.List.Folds.{list_any-append}
use Rattle.std.proofs.lemmas.Map.Text.{btree_map_updates_str}
use Rattle.manifest_tree.specs.declared.node.Attribute.{Attribute}
use Rattle.manifest_tree.specs.Lexis.{is_among}
use Rattle.manifest_tree.specs.Spots.{names_of}
use Rattle.manifest_tree.specs.Pieces.{has_late, HasLate}

pub late_more : {X : Type 0} (old new : BTreeMap (Bor (List ℕ)) X) (name : List ℕ) (x : X)
    → UpdatesBy (λ k l. slice_cmp nat_cmp k.now l.now) (λ k. slice_cmp nat_cmp name k.now) old new (Some x) → (other : List ℕ) → has_late new other ≡ (bytes_eq name other || has_late old other)
late_more old new name x updates other =
    let before = get_by (λ k. slice_cmp nat_cmp other k.now) old in
    ap is_some (btree_map_updates_str name old new (Some x) updates other)
    ∙ (elim (bytes_eq name other) as (λ b. is_some (cond b (Some x) before) ≡ (b || is_some before)) [ true ↦ refl | false ↦ refl ])

among_join : (some others : List Attribute) (name : List ℕ) → is_among (names_of (some ++ others)) name ≡ (is_among (names_of some) name || is_among (names_of others) name)
among_join some others name =
    ap (λ (names : List (List ℕ)). is_among names name) (map-append (λ (a : Attribute). a.name) some others) ∙ list_any-append (λ (other : List ℕ). bytes_eq other name) (names_of some) (names_of others)

pub among_parts : (seen : List Attribute) (name : List ℕ) → is_among (names_of seen) name ≡ (is_among (names_of (take 8 seen)) name || is_among (names_of (drop 8 seen)) name)
among_parts seen name = ap (λ (l : List Attribute). is_among (names_of l) name) (sym (take-append-drop 8 seen)) ∙ among_join (take 8 seen) (drop 8 seen) name

-- the first few do not have it, and the map says whether the others do
pub among_late : {X : Type 0} (late : BTreeMap (Bor (List ℕ)) X) (seen few : List Attribute) (name : List ℕ) (found : Bool) → HasLate late seen → few ≡ take 8 seen → is_among (names_of few) name ≡ false
    → found ≡ has_late late name → found ≡ is_among (names_of seen) name
among_late late seen few name found has few_is none found_is =
    let first : is_among (names_of (take 8 seen)) name ≡ false = ap (λ (l : List Attribute). is_among (names_of l) name) (sym few_is) ∙ none in
    found_is ∙ has name ∙ sym (among_parts seen name ∙ ap (λ (b : Bool). b || is_among (names_of (drop 8 seen)) name) first)

pub no_late : {X : Type 0} (late : BTreeMap (Bor (List ℕ)) X) (attributes : List Attribute) → attributes ≡ [] → IsEmpty late → HasLate late attributes
no_late {X} late attributes empty none name =
    ap (λ (es : List (Bor (List ℕ) × X)). is_some (lookup (is_at (λ k. slice_cmp nat_cmp name k.now)) es)) none ∙ ap (λ (l : List Attribute). is_among (names_of (drop 8 l)) name) (sym empty)

abbrev kept_in : {X : Type 0} → BTreeMap (Bor (List ℕ)) X → ℕ → List ℕ → List ℕ → Bool
kept_in old place name other = if nat_lt place 8 then has_late old other else (bytes_eq name other || has_late old other)

or_swap : (x y : Bool) → (x || y) ≡ (y || (x || false))
or_swap true true = refl
or_swap true false = refl
or_swap false true = refl
or_swap false false = refl

-- one name more
pub late_kept : {X : Type 0} (old new : BTreeMap (Bor (List ℕ)) X) (attributes all : List Attribute) (a : Attribute) (place : ℕ) → HasLate old attributes → place ≡ length attributes
    → ((other : List ℕ) → has_late new other ≡ kept_in old place a.name other) → all ≡ attributes ++ a ∷ [] → HasLate new all
late_kept old new attributes all a place has place_is kept all_is name =
    kept name ∙ elim (cases_Bool (nat_lt place 8)) [
      | inl few ↦
          let small : length attributes < 8 = omega (arith, ltb-true place 8 few, place_is) in
          let small_too : length (attributes ++ a ∷ []) ≤ 8 = omega (arith, length_push attributes a) in
          let none : drop 8 attributes ≡ [] = drop_of_length-le attributes {i = 8} (omega arith) in
          let none_too : drop 8 all ≡ [] = ap (drop 8) all_is ∙ drop_of_length-le (attributes ++ a ∷ []) {i = 8} small_too in
          rw few (has name ∙ ap (λ (l : List Attribute). is_among (names_of l) name) (none ∙ sym none_too))
      | inr many ↦
          let large : 8 ≤ length attributes = omega (arith, ltb-false place 8 many, place_is) in
          let parts : drop 8 all ≡ drop 8 attributes ++ a ∷ [] = ap (drop 8) all_is ∙ drop-append-le 8 attributes (a ∷ []) large in
          rw many (ap (λ (b : Bool). bytes_eq a.name name || b) (has name) ∙ or_swap (bytes_eq a.name name) (is_among (names_of (drop 8 attributes)) name)
          ∙ sym (ap (λ (l : List Attribute). is_among (names_of l) name) parts ∙ among_join (drop 8 attributes) (a ∷ []) name))
    ]

pub kept_as : {X : Type 0} (old new : BTreeMap (Bor (List ℕ)) X) (place : ℕ) (held name : List ℕ) → held ≡ name → ((other : List ℕ) → has_late new other ≡ kept_in old place name other)
    → (other : List ℕ) → has_late new other ≡ kept_in old place held other
kept_as old new place held name same kept other = kept other ∙ ap (λ (n : List ℕ). kept_in old place n other) (sym same)
