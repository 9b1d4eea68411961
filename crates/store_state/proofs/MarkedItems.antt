-- Marks of lists, and what is kept by them.
use Rattle.std.proofs.Common.{◌≡◌, ◌∙◌, ◌++◌, ◌+◌, ◌<◌, ◌≤◌, ◌⊎◌, inl, inr, refl, sym, ap, subst, append_assoc, append-nil, ℕ, zero, suc, Bool, true, false, cond, List, [], ◌∷◌, length, map, get_or, set, take, drop, replicate, All, Some, arith}
use Rattle.std.specs.Prelude.{filter, slice_get}
use Rattle.std.specs.List.{swap}
use Rattle.std.proofs.lemmas.Bool.{cases_lt}
use Rattle.std.proofs.lemmas.List.{drop-set-lt, drop_all, drop_more, length-set, take-set, take-set-le, take_more_set}
use Rattle.std.proofs.lemmas.List.Edits.{swap_is}
use Rattle.std.proofs.lemmas.List.Elements.{All-head, All-tail}
use Rattle.std.proofs.lemmas.Option.{same_Some}
use Rattle.machine.proofs.Members.{pairs_tail}
use Rattle.store_state.specs.declared.view.View.{View}
use Rattle.store_state.specs.Marks.{kept_by}
use Rattle.store_state.specs.Named.{AreNameIndexes, IsNameIndex}
use Rattle.store_state.proofs.Firsts.{PassesOnce, first_fails, others_fail}

-- ---- what is kept

-- by marks that a test gives
pub kept_filter : {X : Type 0} (p : X → Bool) (xs : List X) → kept_by (map p xs) xs ≡ filter p xs
kept_filter p [] = refl
kept_filter {X} p (x ∷ xs) = ap (λ (ys : List X). cond (p x) (x ∷ ys) ys) (kept_filter p xs)

index_head : (v : View) (vs : List View) (i : List ℕ) (is : List (List ℕ))
    → AreNameIndexes (v ∷ vs) (i ∷ is) → IsNameIndex v.application.files i
index_head v vs i is are = are.each 0 v i refl refl

index_tail : (v : View) (vs : List View) (i : List ℕ) (is : List (List ℕ))
    → AreNameIndexes (v ∷ vs) (i ∷ is) → AreNameIndexes vs is
index_tail v vs i is are = record {
  long = omega (arith, are.long);
  each = λ k w places there listed. are.each (suc k) w places there listed;
}

index_cons : (v : View) (vs : List View) (i : List ℕ) (is : List (List ℕ))
    → IsNameIndex v.application.files i → AreNameIndexes vs is
    → AreNameIndexes (v ∷ vs) (i ∷ is)
index_cons v vs i is own are = record { long = omega (arith, are.long); each = by }
  where
    by : (k : ℕ) (w : View) (places : List ℕ) → slice_get (v ∷ vs) k ≡ Some w
        → slice_get (i ∷ is) k ≡ Some places → IsNameIndex w.application.files places
    by zero w places there listed =
        subst (λ (u : View). IsNameIndex u.application.files places) (same_Some v w there)
        (subst (λ (ps : List ℕ). IsNameIndex v.application.files ps) (same_Some i places listed)
        own)
    by (suc k) w places there listed = are.each k w places there listed

no_indexes : AreNameIndexes [] []
no_indexes = record { long = refl; each = λ k v places there listed. absurd cc }

-- the index of each view that is kept is kept too
pub kept_indexes : (marks : List Bool) (views : List View) (indexes : List (List ℕ))
    → AreNameIndexes views indexes → AreNameIndexes (kept_by marks views) (kept_by marks indexes)
kept_indexes [] views indexes are = no_indexes
kept_indexes (mark ∷ marks) [] [] are = no_indexes
kept_indexes (mark ∷ marks) [] (i ∷ is) are = absurd (omega (arith, are.long))
kept_indexes (mark ∷ marks) (v ∷ vs) [] are = absurd (omega (arith, are.long))
kept_indexes (true ∷ marks) (v ∷ vs) (i ∷ is) are =
    index_cons v (kept_by marks vs) i (kept_by marks is) (index_head v vs i is are)
    (kept_indexes marks vs is (index_tail v vs i is are))
kept_indexes (false ∷ marks) (v ∷ vs) (i ∷ is) are =
    kept_indexes marks vs is (index_tail v vs i is are)

-- ---- marks that are all alike

pub all_alike : {X Y : Type 0} (mark : Y) (xs : List X)
    → replicate (length xs) mark ≡ map (λ x. mark) xs
all_alike mark [] = refl
all_alike {Y = Y} mark (x ∷ xs) = ap (λ (marks : List Y). mark ∷ marks) (all_alike mark xs)

-- ---- one mark more

-- f is the test before, g the one after, and t is of one item at most
module _ {X Y : Type 0} (t : X → Bool) (f g : X → Y) (mark : Y)
    (here : (x : X) → t x ≡ true → g x ≡ mark)
    (other : (x : X) → t x ≡ false → g x ≡ f x) where
  pub marked_nowhere : (xs : List X) → All (λ (x : X). t x ≡ false) xs → map f xs ≡ map g xs
  marked_nowhere [] fail = refl
  marked_nowhere (x ∷ xs) fail =
      ap (λ (y : Y). y ∷ map f xs) (sym (other x (All-head (λ (z : X). t z ≡ false) x xs fail)))
      ∙ ap (λ (ys : List Y). g x ∷ ys)
      (marked_nowhere xs (All-tail (λ (z : X). t z ≡ false) x xs fail))

  pub marked_at : (xs : List X) (k : ℕ) (x : X) → PassesOnce t xs → slice_get xs k ≡ Some x
      → t x ≡ true → set (map f xs) k mark ≡ map g xs
  marked_at [] k x once there passes = absurd cc
  marked_at (y ∷ ys) zero x once there passes =
      let passed : t y ≡ true = ap t (same_Some y x there) ∙ passes in
      ap (λ (z : Y). z ∷ map f ys) (sym (here y passed))
      ∙ ap (λ (zs : List Y). g y ∷ zs) (marked_nowhere ys (others_fail t y ys once passed))
  marked_at (y ∷ ys) (suc k) x once there passes =
      ap (λ (zs : List Y). f y ∷ zs)
      (marked_at ys k x (pairs_tail (λ (a b : X). t a ≡ true → t b ≡ true → ⊥) y ys once) there
      passes)
      ∙ ap (λ (z : Y). z ∷ map g ys) (sym (other y (first_fails t y ys k x once there passes)))

-- ---- the loop that moves what is marked to the front

module _ {X : Type 0} (items : List X) (kept place : ℕ) (x : X) (behind : kept ≤ place)
    (within : place < length items) where
  front_by : kept < place ⊎ place ≤ kept
      → take (kept + 1) (set (set items kept (get_or items place x)) place (get_or items kept x))
      ≡ take kept items ++ get_or items place x ∷ []
  front_by (inl less) =
      take-set-le (kept + 1) (set items kept (get_or items place x)) place (get_or items kept x)
      (omega (arith, less))
      ∙ take_more_set items kept (get_or items place x) (omega (arith, behind, within))
  front_by (inr reaches) =
      let same : kept ≡ place = omega (arith, reaches, behind) in
      subst (λ (k : ℕ). take (k + 1) (set (set items k (get_or items place x)) place
      (get_or items k x)) ≡ take k items ++ get_or items place x ∷ []) (sym same)
      (take_more_set (set items place (get_or items place x)) place (get_or items place x)
      (omega (arith, within, length-set items place (get_or items place x)))
      ∙ ap (λ (ys : List X). ys ++ get_or items place x ∷ [])
      (take-set items place (get_or items place x)))

  pub swapped_front : take (kept + 1) (swap items kept place)
      ≡ take kept items ++ get_or items place x ∷ []
  swapped_front =
      ap (take (kept + 1)) (sym (swap_is items kept place x (omega (arith, behind, within)) within))
      ∙ front_by (cases_lt kept place)

  pub swapped_rest : drop (place + 1) (swap items kept place) ≡ drop (place + 1) items
  swapped_rest =
      ap (drop (place + 1))
      (sym (swap_is items kept place x (omega (arith, behind, within)) within))
      ∙ drop-set-lt (place + 1) (set items kept (get_or items place x)) place
      (get_or items kept x) (omega arith)
      ∙ drop-set-lt (place + 1) items kept (get_or items place x) (omega (arith, behind))

  pub swapped_long : length (swap items kept place) ≡ length items
  swapped_long =
      ap length (sym (swap_is items kept place x (omega (arith, behind, within)) within))
      ∙ length-set (set items kept (get_or items place x)) place (get_or items kept x)
      ∙ length-set items kept (get_or items place x)

-- what is moved, and what is still to be
abbrev pub moved_and_left : {X : Type 0} → List Bool → ℕ → ℕ → List X → List X
moved_and_left marks kept place items =
    take kept items ++ kept_by (drop place marks) (drop place items)

pub some_item : {X : Type 0} (items : List X) (place : ℕ) → place < length items → X
some_item [] place within = absurd (omega (arith, within))
some_item (item ∷ items) place within = item

module _ {X : Type 0} (marks : List Bool) (items : List X) (kept place : ℕ) (behind : kept ≤ place)
    (within : place < length marks) (long : length marks ≡ length items) where
  stands : place < length items
  stands = omega (arith, within, long)

  x : X
  x = some_item items place (omega (arith, within, long))

  abbrev rest : List X
  rest = kept_by (drop (place + 1) marks) (drop (place + 1) items)

  here : (mark : Bool) → get_or marks place false ≡ mark
      → kept_by (drop place marks) (drop place items) ≡ cond mark (get_or items place x ∷ rest) rest
  here mark is =
      ap (λ (ms : List Bool). kept_by ms (drop place items)) (drop_more marks place false within)
      ∙ ap (λ (ys : List X). kept_by (get_or marks place false ∷ drop (place + 1) marks) ys)
      (drop_more items place x stands)
      ∙ ap (λ (m : Bool). cond m (get_or items place x ∷ rest) rest) is

  pub one_moved : get_or marks place false ≡ true
      → moved_and_left marks (kept + 1) (place + 1) (swap items kept place)
      ≡ moved_and_left marks kept place items
  one_moved marked =
      ap (λ (ys : List X). ys ++ kept_by (drop (place + 1) marks)
      (drop (place + 1) (swap items kept place))) (swapped_front items kept place x behind stands)
      ∙ ap (λ (ys : List X). (take kept items ++ get_or items place x ∷ [])
      ++ kept_by (drop (place + 1) marks) ys) (swapped_rest items kept place x behind stands)
      ∙ append_assoc (take kept items) (get_or items place x ∷ []) rest
      ∙ ap (λ (ys : List X). take kept items ++ ys) (sym (here true marked))

  pub still_long : length marks ≡ length (swap items kept place)
  still_long = long ∙ sym (swapped_long items kept place x behind stands)

  pub one_passed : get_or marks place false ≡ false
      → moved_and_left marks kept (place + 1) items ≡ moved_and_left marks kept place items
  one_passed unmarked = ap (λ (ys : List X). take kept items ++ ys) (sym (here false unmarked))

-- none is left
pub all_moved : {X : Type 0} (marks : List Bool) (items : List X) (kept place : ℕ)
    → length marks ≤ place → moved_and_left marks kept place items ≡ take kept items
all_moved {X} marks items kept place ended =
    ap (λ (ms : List Bool). take kept items ++ kept_by ms (drop place items))
    (drop_all place marks ended)
    ∙ append-nil (take kept items)
