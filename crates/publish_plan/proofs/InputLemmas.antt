-- The files that are published, one name after another.
use Rattle.std.proofs.Common.{◌≡◌, ℕ, ◌+◌, ◌<◌, ◌≤◌, Bool, true, false, cond, ◌||◌, List, [], ◌∷◌, ◌++◌, length, take, drop, get_or, Option, Some, None, map, refl, sym, ap, ap₂, subst, ◌∙◌, inl, inr, arith, add-one, drop-cons}
use Rattle.std.specs.Prelude.{filter, find}
use Rattle.std.specs.List.{list_any}
use Rattle.std.specs.Str.{bytes_eq}
use Rattle.std.proofs.lemmas.Bool.{cond-true, cond-false, or_left, or_right}
use Rattle.std.proofs.lemmas.List.{take-append-drop, map-append}
use Rattle.std.proofs.lemmas.List.Elements.{filter-append}
use Rattle.std.proofs.lemmas.List.Folds.{list_any-append}
use Rattle.std.proofs.lemmas.Slice.Eq.{bytes_eq-Decides}
use Rattle.publish_plan.specs.Marks.{is_among}
use Rattle.publish_plan.specs.Places.{has_front, behind, all_behind}

at_index : (names : List (List ℕ)) (i : ℕ) (d : List ℕ) → i < length names → drop i names ≡ get_or names i d ∷ drop (i + 1) names
at_index names i d inside = rw (add-one, drop-cons names i d) refl

module _ (front : List ℕ) where
  pub kept : (name : List ℕ) (names : List (List ℕ)) → has_front front name ≡ true → all_behind front (name ∷ names) ≡ behind front name ∷ all_behind front names
  kept name names has = ap (map (behind front)) (cond-true (has_front front name) _ _ has)

  pub left : (name : List ℕ) (names : List (List ℕ)) → has_front front name ≡ false → all_behind front (name ∷ names) ≡ all_behind front names
  left name names has = ap (map (behind front)) (cond-false (has_front front name) _ _ has)

  pub behind_append : (xs ys : List (List ℕ)) → all_behind front (xs ++ ys) ≡ all_behind front xs ++ all_behind front ys
  behind_append xs ys = ap (map (behind front)) (filter-append (has_front front) xs ys) ∙ map-append (behind front) (filter (has_front front) xs) (filter (has_front front) ys)

  module _ (names : List (List ℕ)) (i : ℕ) (name : List ℕ) (inside : i < length names) (is : name ≡ get_or names i name) where
    whole : drop i names ≡ name ∷ drop (i + 1) names
    whole = at_index names i name inside ∙ ap (λ (n : List ℕ). n ∷ drop (i + 1) names) (sym is)

    pub behind_yes : has_front front name ≡ true → all_behind front (drop i names) ≡ behind front name ∷ all_behind front (drop (i + 1) names)
    behind_yes has = ap (all_behind front) whole ∙ kept name (drop (i + 1) names) has

    pub behind_no : has_front front name ≡ false → all_behind front (drop i names) ≡ all_behind front (drop (i + 1) names)
    behind_no has = ap (all_behind front) whole ∙ left name (drop (i + 1) names) has

    -- what stands behind the front of a name is one of those files
    pub among_behind : has_front front name ≡ true → is_among (all_behind front names) (behind front name) ≡ true
    among_behind has =
        let file = behind front name in
        let halves : all_behind front names ≡ all_behind front (take i names) ++ all_behind front (drop i names) =
        sym (ap (all_behind front) (take-append-drop i names)) ∙ behind_append (take i names) (drop i names) in
        let here : is_among (all_behind front (drop i names)) file ≡ true =
        ap (λ (fs : List (List ℕ)). is_among fs file) (behind_yes has) ∙ or_left (bytes_eq file file) _ ((bytes_eq-Decides file file).1 refl) in
        ap (λ (fs : List (List ℕ)). is_among fs file) halves ∙ list_any-append (λ (f : List ℕ). bytes_eq f file) (all_behind front (take i names)) (all_behind front (drop i names))
        ∙ or_right (is_among (all_behind front (take i names)) file) _ here
