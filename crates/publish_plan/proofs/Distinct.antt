-- Names that differ.
use Rattle.std.proofs.Common.{◌≡◌, ℕ, Bool, true, false, cond, List, [], ◌∷◌, ◌++◌, map, refl, sym, ap, subst, ◌∙◌, inl, inr}
use Rattle.std.specs.List.{IsDistinct, AllByRecursion, All}
use Rattle.std.specs.Str.{bytes_eq}
use Rattle.std.proofs.lemmas.Bool.{cases_Bool, false_from_ne_true, both_ways}
use Rattle.std.proofs.lemmas.List.Elements.{All-head, All-tail}
use Rattle.std.proofs.lemmas.Slice.Eq.{bytes_eq-Decides}
use Rattle.publish_plan.specs.Places.{has_front, behind, all_behind}
use Rattle.publish_plan.proofs.InputLemmas.{kept, left}
use Rattle.publish_plan.proofs.PathLemmas.{front_then_rest}

-- none of them is the name
abbrev pub Apart : List ℕ → List (List ℕ) → Type 0
Apart name names = AllByRecursion (λ (other : List ℕ). bytes_eq name other ≡ false) names

pub unequal : (x y : List ℕ) → (x ≡ y → ⊥) → bytes_eq x y ≡ false
unequal x y other = false_from_ne_true (bytes_eq x y) (λ same. other ((bytes_eq-Decides x y).0 same))

pub not_equal : (x y : List ℕ) → bytes_eq x y ≡ false → x ≡ y → ⊥
not_equal x y other same = both_ways (bytes_eq x y) other ((bytes_eq-Decides x y).1 same)

distinct_parts : (x : List ℕ) (xs : List (List ℕ)) → IsDistinct bytes_eq (x ∷ xs) → Apart x xs × IsDistinct bytes_eq xs
unfolding IsDistinct
distinct_parts x xs h = h

pub distinct_cons : (x : List ℕ) (xs : List (List ℕ)) → Apart x xs → IsDistinct bytes_eq xs → IsDistinct bytes_eq (x ∷ xs)
unfolding IsDistinct
distinct_cons x xs apart distinct = (apart, distinct)

pub distinct_none : IsDistinct bytes_eq []
unfolding IsDistinct
distinct_none = tt

-- ---- what stands behind a front

module _ (front : List ℕ) where
  abbrev Behind : List (List ℕ) → Type 0
  Behind files = IsDistinct bytes_eq files

  apart_behind : (name : List ℕ) (names : List (List ℕ)) → has_front front name ≡ true → Apart name names → Apart (behind front name) (all_behind front names)
  apart_behind name [] has apart = tt
  apart_behind name (n ∷ ns) has apart = elim (cases_Bool (has_front front n)) [
    | inl yes_too ↦
        let other : bytes_eq (behind front name) (behind front n) ≡ false = unequal (behind front name) (behind front n) (λ same.
        not_equal name n apart.0 (sym (front_then_rest front name has) ∙ ap (λ (t : List ℕ). front ++ t) same ∙ front_then_rest front n yes_too)) in
        subst (Apart (behind front name)) (sym (kept front n ns yes_too)) (other, apart_behind name ns has apart.1)
    | inr none ↦ subst (Apart (behind front name)) (sym (left front n ns none)) (apart_behind name ns has apart.1)
  ]

  pub distinct_behind : (names : List (List ℕ)) → IsDistinct bytes_eq names → IsDistinct bytes_eq (all_behind front names)
  distinct_behind [] h = distinct_none
  distinct_behind (n ∷ ns) h =
      let parts = distinct_parts n ns h in
      elim (cases_Bool (has_front front n)) [
        | inl has ↦ subst Behind (sym (kept front n ns has)) (distinct_cons (behind front n) (all_behind front ns) (apart_behind n ns has parts.0) (distinct_behind ns parts.1))
        | inr none ↦ subst Behind (sym (left front n ns none)) (distinct_behind ns parts.1)
      ]

-- ---- names that are made of names, one to one

module _ (f : List ℕ → List ℕ) (one : (x y : List ℕ) → f x ≡ f y → x ≡ y) where
  apart_map : (x : List ℕ) (xs : List (List ℕ)) → Apart x xs → Apart (f x) (map f xs)
  apart_map x [] apart = tt
  apart_map x (y ∷ ys) apart = (unequal (f x) (f y) (λ same. not_equal x y apart.0 (one x y same)), apart_map x ys apart.1)

  pub distinct_map : (xs : List (List ℕ)) → IsDistinct bytes_eq xs → IsDistinct bytes_eq (map f xs)
  distinct_map [] h = distinct_none
  distinct_map (x ∷ xs) h = let parts = distinct_parts x xs h in distinct_cons (f x) (map f xs) (apart_map x xs parts.0) (distinct_map xs parts.1)

-- ---- two names behind others

module _ (a b : List ℕ) where
  apart_then : (x : List ℕ) (xs : List (List ℕ)) → Apart x xs → bytes_eq x a ≡ false → bytes_eq x b ≡ false → Apart x (xs ++ a ∷ b ∷ [])
  apart_then x [] apart first second = (first, (second, tt))
  apart_then x (y ∷ ys) apart first second = (apart.0, apart_then x ys apart.1 first second)

  pub distinct_then : (xs : List (List ℕ)) → IsDistinct bytes_eq xs → All (λ (x : List ℕ). bytes_eq x a ≡ false) xs → All (λ (x : List ℕ). bytes_eq x b ≡ false) xs → bytes_eq a b ≡ false → IsDistinct bytes_eq (xs ++ a ∷ b ∷ [])
  distinct_then [] h firsts seconds apart = distinct_cons a (b ∷ []) (apart, tt) (distinct_cons b [] tt distinct_none)
  distinct_then (x ∷ xs) h firsts seconds apart =
      let parts = distinct_parts x xs h in
      distinct_cons x (xs ++ a ∷ b ∷ [])
      (apart_then x xs parts.0 (All-head (λ (y : List ℕ). bytes_eq y a ≡ false) x xs firsts) (All-head (λ (y : List ℕ). bytes_eq y b ≡ false) x xs seconds))
      (distinct_then xs parts.1 (All-tail (λ (y : List ℕ). bytes_eq y a ≡ false) x xs firsts) (All-tail (λ (y : List ℕ). bytes_eq y b ≡ false) x xs seconds) apart)
