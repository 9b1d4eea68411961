-- The escapes of a path are read part by part.
use Rattle.std.proofs.Common.{◌≡◌, ℕ, ◌+◌, ◌*◌, true, not, ◌==◌, List, [], ◌∷◌, ◌++◌, take, Option, Some, None, All, refl, sym, ap, ◌∙◌, one-add, arith, inl, inr, Ok}
use Rattle.std.specs.Char.{digit_value}
use Rattle.std.specs.Result.{result_ok}
use Rattle.std.proofs.lemmas.Bool.{cond-true, cond-false, cases_Bool, ne_eqb}
use Rattle.std.proofs.lemmas.List.{map-append}
use Rattle.std.proofs.lemmas.List.Elements.{All-head, All-tail}
use Rattle.percent_encoding.specs.Percent.{is_escape, percent_decode}
use Rattle.percent_encoding.proofs.PercentLemmas.{KeepsFirst_from_no_escape, percent_decode_not_percent}
use Rattle.url.proofs.InputLemmas.{IsNot}
use Rattle.small_types.specs.Name.{name_text, name_of, IsName, is_name}
use Rattle.addresses.specs.Address.{query_text}
use Rattle.http_plain.specs.Path.{name_in_path, without_query}

-- no escape goes over a slash
pub decode_joined : (xs ys : List ℕ) → percent_decode (xs ++ 47 ∷ ys) ≡ percent_decode xs ++ 47 ∷ percent_decode ys
unfolding percent_decode
decode_joined [] ys = percent_decode_not_percent 47 ys (λ e. omega arith)
decode_joined (b ∷ []) ys =
    KeepsFirst_from_no_escape (b ∷ 47 ∷ ys) (λ long percent high low. omega (arith, high)) ∙ ap (λ (t : List ℕ). b ∷ t) (decode_joined [] ys)
decode_joined (b ∷ c ∷ []) ys =
    KeepsFirst_from_no_escape (b ∷ c ∷ 47 ∷ ys) (λ long percent high low. omega (arith, low)) ∙ ap (λ (t : List ℕ). b ∷ t) (decode_joined (c ∷ []) ys)
decode_joined (b ∷ high ∷ low ∷ rest) ys =
    let read = decode_joined rest ys in
    let kept = decode_joined (high ∷ low ∷ rest) ys in
    elim (cases_Bool (is_escape b high low)) [
      | inl found ↦ cond-true _ _ _ found ∙ ap (λ (t : List ℕ). (16 * digit_value high + digit_value low) ∷ t) read ∙ ap (λ (t : List ℕ). t ++ 47 ∷ percent_decode ys) (sym (cond-true (is_escape b high low) ((16 * digit_value high + digit_value low) ∷ percent_decode rest) (b ∷ percent_decode (high ∷ low ∷ rest)) found))
      | inr none ↦ cond-false _ _ _ none ∙ ap (λ (t : List ℕ). b ∷ t) kept ∙ ap (λ (t : List ℕ). t ++ 47 ∷ percent_decode ys) (sym (cond-false (is_escape b high low) ((16 * digit_value high + digit_value low) ∷ percent_decode rest) (b ∷ percent_decode (high ∷ low ∷ rest)) none))
    ]

pub name_joined : (xs ys : List ℕ) → name_text (xs ++ 47 ∷ ys) ≡ name_text xs ++ 47 ∷ name_text ys
name_joined xs ys = map-append _ xs (47 ∷ ys)

-- ---- the query

pub query_cut : (path : List ℕ) (query : Option (List ℕ)) → All (IsNot 63) path → without_query (path ++ query_text query) ≡ path
query_cut [] None none = refl
query_cut [] (Some query) none = refl
query_cut (b ∷ path) query none =
    let other : not (b == 63) ≡ true = ap not (ne_eqb b 63 (All-head (IsNot 63) b path none)) in
    let rest = query_cut path query (All-tail (IsNot 63) b path none) in
    ap (λ (n : ℕ). take n (b ∷ (path ++ query_text query))) (cond-true _ _ _ other ∙ one-add _) ∙ ap (λ (t : List ℕ). b ∷ t) rest

-- ---- the name

name_read : (text name : List ℕ) → name_text text ≡ name → IsName name → name_of text ≡ Ok name
unfolding name_of
name_read text name same is = rw (same, is) refl

-- a path is read as the name that it spells
pub path_named : (rest name : List ℕ) (query : Option (List ℕ)) → All (IsNot 63) rest → name_text (percent_decode rest) ≡ name → IsName name → name_in_path (47 ∷ (rest ++ query_text query)) ≡ Some name
unfolding name_in_path
path_named rest name query none same is =
    ap (λ (t : List ℕ). result_ok (name_of (percent_decode t))) (query_cut rest query none) ∙ ap result_ok (name_read (percent_decode rest) name same is)

-- and what a path is read as is a name
name_back : (text name : List ℕ) → result_ok (name_of text) ≡ Some name → (name_text text ≡ name) × IsName name
unfolding name_of
name_back text name read =
    elim (cases_Bool (is_name (name_text text))) [
      | inl is ↦ let same : name_text text ≡ name = (let shown = rw is at read in cc) in (same, ap is_name (sym same) ∙ is)
      | inr other ↦ let shown = rw other at read in absurd cc
    ]

pub named_back : (rest name : List ℕ) (query : Option (List ℕ)) → All (IsNot 63) rest → name_in_path (47 ∷ (rest ++ query_text query)) ≡ Some name → (name_text (percent_decode rest) ≡ name) × IsName name
unfolding name_in_path
named_back rest name query none read =
    name_back (percent_decode rest) name (ap (λ (t : List ℕ). result_ok (name_of (percent_decode t))) (sym (query_cut rest query none)) ∙ read)
