-- The files that are published, none of them marked.
use Rattle.std.proofs.Common.{◌≡◌, ℕ, ◌+◌, ◌<◌, ◌≤◌, Bool, true, false, cond, ◌||◌, List, [], ◌∷◌, ◌++◌, length, drop, get_or, Option, Some, None, refl, sym, ap, ◌∙◌, arith}
use Rattle.std.specs.BTreeMap.{BTreeMap, Updates}
use Rattle.std.specs.Cmp.Lexicographic.{slice_cmp}
use Rattle.std.specs.Ordering.{nat_cmp}
use Rattle.std.specs.Str.{bytes_eq}
use Rattle.std.proofs.lemmas.List.{drop_all}
use Rattle.std.proofs.lemmas.Map.Text.{is_eq-slice_cmp}
use Rattle.publish_plan.specs.declared.marked.Seen.{Seen}
use Rattle.publish_plan.specs.Marks.{is_among}
use Rattle.publish_plan.specs.Places.{has_front, behind, all_behind}
use Rattle.publish_plan.specs.Seen.{unmarked, row, Knows}
use Rattle.publish_plan.proofs.InputLemmas.{behind_yes, behind_no}

abbrev pub entry : Bool → Option Seen → Option Seen
entry among other = cond among (Some unmarked) other

-- with those that are left, the table has all
abbrev pub Indexing : List ℕ → List (List ℕ) → BTreeMap (List ℕ) Seen → ℕ → Type 0
Indexing front names table i =
    (q : List ℕ) → entry (is_among (all_behind front (drop i names)) q) (row table q) ≡ entry (is_among (all_behind front names) q) None

pub put_file : (old new : BTreeMap (List ℕ) Seen) (file : List ℕ) → Updates (slice_cmp nat_cmp) old new file (Some unmarked) → (q : List ℕ) → row new q ≡ entry (bytes_eq file q) (row old q)
put_file old new file updates q = updates.0 q ∙ ap (λ (b : Bool). entry b (row old q)) (is_eq-slice_cmp file q)

one_or_rest : (here later : Bool) (other : Option Seen) → entry later (entry here other) ≡ entry (here || later) other
one_or_rest true true other = refl
one_or_rest true false other = refl
one_or_rest false later other = refl

module _ (front : List ℕ) (names : List (List ℕ)) (table : BTreeMap (List ℕ) Seen) (i : ℕ) (name : List ℕ) (inside : i < length names) (is : name ≡ get_or names i name) (so_far : Indexing front names table i) where
  pub indexing_yes : (new : BTreeMap (List ℕ) Seen) → has_front front name ≡ true → ((q : List ℕ) → row new q ≡ entry (bytes_eq (behind front name) q) (row table q)) → Indexing front names new (i + 1)
  indexing_yes new has put q =
      let rest = all_behind front (drop (i + 1) names) in
      let here : all_behind front (drop i names) ≡ behind front name ∷ rest = behind_yes front names i name inside is has in
      ap (entry (is_among rest q)) (put q) ∙ one_or_rest (bytes_eq (behind front name) q) (is_among rest q) (row table q)
      ∙ sym (ap (λ (fs : List (List ℕ)). entry (is_among fs q) (row table q)) here) ∙ so_far q

  pub indexing_no : has_front front name ≡ false → Indexing front names table (i + 1)
  indexing_no has q =
      sym (ap (λ (fs : List (List ℕ)). entry (is_among fs q) (row table q)) (behind_no front names i name inside is has)) ∙ so_far q

pub indexing_all : (front : List ℕ) (names : List (List ℕ)) (table : BTreeMap (List ℕ) Seen) (i : ℕ) → i ≡ length names → Indexing front names table i → Knows table (all_behind front names) []
indexing_all front names table i end so_far q =
    let none : drop i names ≡ [] = drop_all i names (omega arith) in
    sym (ap (λ (ns : List (List ℕ)). entry (is_among (all_behind front ns) q) (row table q)) none) ∙ so_far q
