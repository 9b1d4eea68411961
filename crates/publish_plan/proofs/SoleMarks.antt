-- Where no mark is bad, a file has one mark at most.
use Rattle.std.proofs.Common.{◌≡◌, ℕ, Bool, true, false, cond, not, ◌&&◌, ◌||◌, List, [], ◌∷◌, ◌++◌, Option, Some, None, refl, sym, ap, subst, ◌∙◌, inl, inr}
use Rattle.std.specs.Prelude.{find, IfSome, All}
use Rattle.std.specs.List.{list_any}
use Rattle.std.specs.Str.{bytes_eq}
use Rattle.std.proofs.lemmas.Bool.{cases_Bool, and_parts, or_left, or_right, or_from, both_ways, not-true, cond-true, cond-false, false_from_ne_true, or_cases}
use Rattle.std.proofs.lemmas.List.Elements.{All-head, All-tail}
use Rattle.std.proofs.lemmas.List.Folds.{list_any-append}
use Rattle.std.proofs.lemmas.Slice.Eq.{bytes_eq-Decides}
use Rattle.publish_plan.specs.declared.options.Mark.{Mark}
use Rattle.publish_plan.specs.declared.options.MarkKind.{MarkKind}
use Rattle.publish_plan.specs.declared.options.MarkKind.TheVariants.{Local, Group}
use Rattle.publish_plan.specs.Marks.{names_file, is_marked, is_data, is_local, group_in, group_at, group_of, is_among, is_good, bad_mark}

none_bad : (good : Bool) (rest : Option (List ℕ)) (file : List ℕ) → cond good rest (Some file) ≡ None → (good ≡ true) × (rest ≡ None)
none_bad true rest file is = (refl, is)
none_bad false rest file is = absurd cc

marked_by : (before : List Mark) (m : Mark) (f : List ℕ) → names_file f m ≡ true → is_marked (before ++ m ∷ []) f ≡ true
marked_by before m f is = list_any-append (names_file f) before (m ∷ []) ∙ or_right (is_marked before f) (names_file f m || false) (or_left (names_file f m) false is)

still_marked : (before : List Mark) (m : Mark) (f : List ℕ) → is_marked before f ≡ true → is_marked (before ++ m ∷ []) f ≡ true
still_marked before m f is = list_any-append (names_file f) before (m ∷ []) ∙ or_left (is_marked before f) (names_file f m || false) is

data_is_marked : (ms : List Mark) (f : List ℕ) → is_data ms f ≡ true → is_marked ms f ≡ true
data_is_marked [] f is = is
data_is_marked (m ∷ ms) f is = elim (or_cases (names_file f m && is_local m.kind) (is_data ms f) is) [
  | inl here ↦ or_left (names_file f m) (is_marked ms f) (and_parts (names_file f m) (is_local m.kind) here).0
  | inr later ↦ or_right (names_file f m) (is_marked ms f) (data_is_marked ms f later)
]

local_has_no_group : (kind : MarkKind) → is_local kind ≡ true → group_in kind ≡ None
local_has_no_group Local is = refl
local_has_no_group (Group group) is = absurd cc

module _ (files : List (List ℕ)) (f : List ℕ) where
  no_more : (before ms : List Mark) → bad_mark files before ms ≡ None → is_marked before f ≡ true → is_marked ms f ≡ false
  no_more before [] none marked = refl
  no_more before (m ∷ ms) none marked =
      let step = none_bad (is_good files before m) (bad_mark files (before ++ m ∷ []) ms) m.file none in
      let fresh = not-true (is_marked before m.file) (and_parts (is_among files m.file) (not (is_marked before m.file)) step.0).1 in
      let other : names_file f m ≡ false = false_from_ne_true (names_file f m) (λ same.
      both_ways (is_marked before f) (ap (is_marked before) (sym ((bytes_eq-Decides m.file f).0 same)) ∙ fresh) marked) in
      or_from (names_file f m) (is_marked ms f) other (no_more (before ++ m ∷ []) ms step.1 (still_marked before m f marked))

  pub data_alone : (before ms : List Mark) → bad_mark files before ms ≡ None → is_data ms f ≡ true → group_of ms f ≡ None
  data_alone before [] none data_file = refl
  data_alone before (m ∷ ms) none data_file =
      let step = none_bad (is_good files before m) (bad_mark files (before ++ m ∷ []) ms) m.file none in
      elim (cases_Bool (names_file f m)) [
        | inl same ↦
            let no_other = no_more (before ++ m ∷ []) ms step.1 (marked_by before m f same) in
            let no_data : is_data ms f ≡ false = false_from_ne_true (is_data ms f) (λ is. both_ways (is_marked ms f) no_other (data_is_marked ms f is)) in
            let here : is_local m.kind ≡ true = elim (or_cases (names_file f m && is_local m.kind) (is_data ms f) data_file) [
              | inl first ↦ (and_parts (names_file f m) (is_local m.kind) first).1
              | inr later ↦ absurd (both_ways (is_data ms f) no_data later)
            ] in
            ap group_at (cond-true (names_file f m) (Some m) (find (names_file f) ms) same) ∙ local_has_no_group m.kind here
        | inr other ↦
            let later : is_data ms f ≡ true = elim (or_cases (names_file f m && is_local m.kind) (is_data ms f) data_file) [
              | inl first ↦ absurd (both_ways (names_file f m) other (and_parts (names_file f m) (is_local m.kind) first).0)
              | inr rest ↦ rest
            ] in
            ap group_at (cond-false (names_file f m) (Some m) (find (names_file f) ms) other) ∙ data_alone (before ++ m ∷ []) ms step.1 later
      ]

-- what holds of each group that a mark gives holds of the group of each file
pub group_holds : (P : List ℕ → Type 0) (ms : List Mark) (f : List ℕ) → All (λ (m : Mark). IfSome (group_in m.kind) P) ms → IfSome (group_of ms f) P
group_holds P [] f each = tt
group_holds P (m ∷ ms) f each = elim (cases_Bool (names_file f m)) [
  | inl same ↦
      subst (λ (g : Option (List ℕ)). IfSome g P) (sym (ap group_at (cond-true (names_file f m) (Some m) (find (names_file f) ms) same)))
      (All-head (λ (n : Mark). IfSome (group_in n.kind) P) m ms each)
  | inr other ↦
      subst (λ (g : Option (List ℕ)). IfSome g P) (sym (ap group_at (cond-false (names_file f m) (Some m) (find (names_file f) ms) other)))
      (group_holds P ms f (All-tail (λ (n : Mark). IfSome (group_in n.kind) P) m ms each))
]
