-- Contents and files by what their bytes are known by.
use Rattle.std.proofs.Common.{◌≡◌, ◌∙◌, ◌⊎◌, ◌++◌, inl, inr, refl, sym, ap, Bool, true, false, cond, List, [], ◌∷◌, map, AllPairs, Option, Some, None, IsSome, arith}
use Rattle.std.specs.Prelude.{find, filter, flat_map}
use Rattle.std.proofs.lemmas.List.Kept.{AllPairs-cons}
use Rattle.manifests.specs.declared.facts.FileEntry.{FileEntry}
use Rattle.machine.specs.Views.{ContentKey, content_key}
use Rattle.machine.proofs.Members.{In, all_in, in_all, in_either, in_map, pairs_head, pairs_tail}
use Rattle.store_state.specs.declared.view.Content.{Content}
use Rattle.store_state.specs.Contents.{content_of}

pub not_true : {P : Type 0} → false ≡ true → P
not_true e = absurd cc

pub both : {P : Type 0} (b : Bool) → b ≡ true → b ≡ false → P
both b e f = not_true (sym f ∙ e)

-- ---- the first that passes

-- the first of a list that passes a test
pub record IsFoundBy {X : Type 0} (p : X → Bool) (xs : List X) : Type 0 where
  pub item : X
  pub is : find p xs ≡ Some item
  pub there : In item xs
  pub passes : p item ≡ true

module _ {X : Type 0} (p : X → Bool) where
  pub found : (xs : List X) → IsSome (find p xs) → IsFoundBy p xs
  found [] some = not_true some
  found (x ∷ xs) some = by (p x) refl some (found xs)
    where
      by : (b : Bool) → p x ≡ b → IsSome (cond b (Some x) (find p xs)) → (IsSome (find p xs) → IsFoundBy p xs) → IsFoundBy p (x ∷ xs)
      by true e some rest = record {
        item = x;
        is = ap (λ (b : Bool). cond b (Some x) (find p xs)) e;
        there = inl refl;
        passes = e;
      }
      by false e some rest =
          let later = rest some in
          record {
            item = later.item;
            is = ap (λ (b : Bool). cond b (Some x) (find p xs)) e ∙ later.is;
            there = inr later.there;
            passes = later.passes;
          }

  some_at : (b : Bool) (x : X) (rest : Option X) → (b ≡ true) ⊎ IsSome rest → IsSome (cond b (Some x) rest)
  some_at true x rest either = refl
  some_at false x rest (inl e) = not_true e
  some_at false x rest (inr some) = some

  pub some_found : (xs : List X) (x : X) → In x xs → p x ≡ true → IsSome (find p xs)
  some_found [] x there passes = absurd there
  some_found (y ∷ ys) x (inl is) passes = some_at (p y) y (find p ys) (inl (ap p is ∙ passes))
  some_found (y ∷ ys) x (inr there) passes = some_at (p y) y (find p ys) (inr (some_found ys x there passes))

  pub find_left : (xs ys : List X) → IsSome (find p xs) → find p (xs ++ ys) ≡ find p xs
  find_left [] ys some = not_true some
  find_left (x ∷ xs) ys some = by (p x) some (find_left xs ys)
    where
      by : (b : Bool) → IsSome (cond b (Some x) (find p xs)) → (IsSome (find p xs) → find p (xs ++ ys) ≡ find p xs) → cond b (Some x) (find p (xs ++ ys)) ≡ cond b (Some x) (find p xs)
      by true some rest = refl
      by false some rest = rest some

  pub find_right : (xs ys : List X) → find p xs ≡ None → find p (xs ++ ys) ≡ find p ys
  find_right [] ys none = refl
  find_right (x ∷ xs) ys none = by (p x) none (find_right xs ys)
    where
      by : (b : Bool) → cond b (Some x) (find p xs) ≡ None → (find p xs ≡ None → find p (xs ++ ys) ≡ find p ys) → cond b (Some x) (find p (xs ++ ys)) ≡ find p ys
      by true none rest = absurd cc
      by false none rest = rest none

  -- a filter that all pass keeps them
  pub filter_all : (xs : List X) → ((x : X) → In x xs → p x ≡ true) → filter p xs ≡ xs
  filter_all [] each = refl
  filter_all (x ∷ xs) each =
      ap (λ (b : Bool). cond b (x ∷ filter p xs) (filter p xs)) (each x (inl refl))
      ∙ ap (λ (ys : List X). x ∷ ys) (filter_all xs (λ y there. each y (inr there)))

  -- and one that none passes keeps none
  pub filter_none : (xs : List X) → ((x : X) → In x xs → p x ≡ false) → filter p xs ≡ []
  filter_none [] each = refl
  filter_none (x ∷ xs) each =
      ap (λ (b : Bool). cond b (x ∷ filter p xs) (filter p xs)) (each x (inl refl))
      ∙ filter_none xs (λ y there. each y (inr there))

-- ---- of mapped lists

pub flat_map_in : {X Z : Type 0} (g : X → List Z) (xs : List X) (z : Z) → In z (flat_map g xs) → (x : X) × In x xs × In z (g x)
flat_map_in g [] z there = absurd there
flat_map_in {X} {Z} g (x ∷ xs) z there = by (in_either (g x) (flat_map g xs) z there) (flat_map_in g xs z)
  where
    by : In z (g x) ⊎ In z (flat_map g xs) → (In z (flat_map g xs) → (y : X) × In y xs × In z (g y)) → (y : X) × In y (x ∷ xs) × In z (g y)
    by (inl here) rest = (x, inl refl, here)
    by (inr later) rest = let from = rest later in (from.0, inr from.1, from.2)

module _ {X Y : Type 0} (f : X → Y) (R : Y → Y → Type 0) where
  pub pairs_before : (xs : List X) → AllPairs R (map f xs) → AllPairs (λ (x y : X). R (f x) (f y)) xs
  pairs_before [] pairs = λ i j d lt within. absurd (omega arith)
  pairs_before (x ∷ xs) pairs =
      AllPairs-cons (λ (x y : X). R (f x) (f y)) x xs
      (in_all (λ (y : X). R (f x) (f y)) xs (λ y there. all_in (R (f x)) (map f xs) (f y) (pairs_head R (f x) (map f xs) pairs) (in_map f xs y there)))
      (pairs_before xs (pairs_tail R (f x) (map f xs) pairs))

-- ---- contents

-- files with equal keys have one content
pub content_by_key : (contents : List Content) (a b : FileEntry) → content_key a ≡ content_key b → content_of contents a ≡ content_of contents b
content_by_key contents a b same = ap (λ (key : ContentKey). content_of contents (record a { size = key.size; list = key.list })) same ∙ other
  where
    other : content_of contents (record a { size = b.size; list = b.list }) ≡ content_of contents b
    other = refl
