-- The first element of a list that passes a test.
use Rattle.std.proofs.Common.{◌≡◌, ◌∙◌, ◌++◌, inl, inr, refl, sym, ap, subst, Bool, true, false, cond, List, [], ◌∷◌, map, All, Option, Some, None}
use Rattle.std.specs.Prelude.{IsSome, filter, find, option_and_then, option_map}
use Rattle.std.specs.Option.{option_or}
use Rattle.std.proofs.lemmas.Bool.{both_ways, cond-false, cond-true, false_from_ne_true, false≢true}
use Rattle.std.proofs.lemmas.List.Elements.{All-head, All-tail}
use Rattle.std.proofs.lemmas.List.Folds.{find-append}
use Rattle.std.proofs.lemmas.Option.{none-some, same_Some}
use Rattle.machine.proofs.Members.{In}

-- ---- values

-- one that is there
pub value_of : {X : Type 0} (o : Option X) → IsSome o → (x : X) × (o ≡ Some x)
value_of None is = absurd (false≢true is)
value_of (Some x) is = (x, refl)

pub some_there : {X : Type 0} (o : Option X) (x : X) → o ≡ Some x → IsSome o
some_there {X} o x is = subst (λ (p : Option X). IsSome p) (sym is) refl

-- what f gave it for
pub then_value : {X Y : Type 0} (f : X → Option Y) (o : Option X) (y : Y)
    → option_and_then f o ≡ Some y
    → (x : X) × (o ≡ Some x) × (f x ≡ Some y)
then_value f None y is = absurd (none-some y is)
then_value f (Some x) y is = (x, refl, is)

-- what f made it of
pub map_value : {X Y : Type 0} (f : X → Y) (o : Option X) (y : Y) → option_map f o ≡ Some y
    → (x : X) × (o ≡ Some x) × (f x ≡ y)
map_value f None y is = absurd (none-some y is)
map_value f (Some x) y is = (x, refl, same_Some (f x) y is)

or_none : {X : Type 0} (o : Option X) → option_or o None ≡ o
or_none None = refl
or_none (Some x) = refl

-- ---- the first that passes

module _ {X : Type 0} (test : X → Bool) where
  in_at : (b : Bool) (y : X) (ys : List X) (x : X) → test y ≡ b
      → cond b (Some y) (find test ys) ≡ Some x
      → (find test ys ≡ Some x → In x ys × (test x ≡ true)) → In x (y ∷ ys) × (test x ≡ true)
  in_at true y ys x passes is rest =
      let same = same_Some y x is in (inl same, subst (λ (z : X). test z ≡ true) same passes)
  in_at false y ys x fails is rest = let found = rest is in (inr found.0, found.1)

  -- it is one of them, and passes
  pub find_in : (xs : List X) (x : X) → find test xs ≡ Some x → In x xs × (test x ≡ true)
  find_in [] x is = absurd (none-some x is)
  find_in (y ∷ ys) x is = in_at (test y) y ys x refl is (find_in ys x)

  some_at : (b : Bool) (y : X) (ys : List X) (x : X) → test y ≡ b → test x ≡ true → In x (y ∷ ys)
      → (In x ys → (z : X) × (find test ys ≡ Some z))
      → (z : X) × (cond b (Some y) (find test ys) ≡ Some z)
  some_at true y ys x is passes there rest = (y, refl)
  some_at false y ys x is passes (inl same) rest =
      absurd (both_ways (test x) (sym (ap test same) ∙ is) passes)
  some_at false y ys x is passes (inr there) rest = rest there

  -- there is one where one of them passes
  pub find_some : (xs : List X) (x : X) → In x xs → test x ≡ true
      → (z : X) × (find test xs ≡ Some z)
  find_some [] x there passes = absurd there
  find_some (y ∷ ys) x there passes =
      some_at (test y) y ys x refl passes there (λ behind. find_some ys x behind passes)

  -- there is none where none passes
  pub find_none : (xs : List X) → All (λ x. test x ≡ false) xs → find test xs ≡ None
  find_none [] all = refl
  find_none (x ∷ xs) all =
      cond-false (test x) (Some x) (find test xs) (All-head (λ y. test y ≡ false) x xs all)
      ∙ find_none xs (All-tail (λ y. test y ≡ false) x xs all)

  -- ---- with more behind them

  pub find-front : (xs ys : List X) (x : X) → find test xs ≡ Some x → find test (xs ++ ys) ≡ Some x
  find-front xs ys x is =
      find-append test xs ys ∙ ap (λ (o : Option X). option_or o (find test ys)) is

  pub find-last : (xs : List X) (y : X) → find test xs ≡ None → test y ≡ true
      → find test (xs ++ y ∷ []) ≡ Some y
  find-last xs y none passes =
      find-append test xs (y ∷ [])
      ∙ ap (λ (o : Option X). option_or o (cond (test y) (Some y) None)) none
      ∙ cond-true (test y) (Some y) None passes

  -- one that fails
  pub find-other : (xs : List X) (y : X) → test y ≡ false → find test (xs ++ y ∷ []) ≡ find test xs
  find-other xs y fails =
      find-append test xs (y ∷ [])
      ∙ ap (λ (o : Option X). option_or (find test xs) o) (cond-false (test y) (Some y) None fails)
      ∙ or_none (find test xs)

  -- ---- among those that are kept

  module _ (keep : X → Bool) where
    kept_at : (c : Bool) (y : X) (ys : List X) → keep y ≡ c → (test y ≡ true → keep y ≡ true)
        → find test (filter keep ys) ≡ find test ys
        → find test (cond c (y ∷ filter keep ys) (filter keep ys)) ≡ find test (y ∷ ys)
    kept_at true y ys is kept rest = ap (λ (o : Option X). cond (test y) (Some y) o) rest
    kept_at false y ys is kept rest =
        rest
        ∙ sym (cond-false (test y) (Some y) (find test ys)
        (false_from_ne_true (test y) (λ passes. both_ways (keep y) is (kept passes))))

    -- the same where all that pass are kept
    pub find-kept : (xs : List X) → ((x : X) → test x ≡ true → keep x ≡ true)
        → find test (filter keep xs) ≡ find test xs
    find-kept [] kept = refl
    find-kept (y ∷ ys) kept = kept_at (keep y) y ys refl (kept y) (find-kept ys kept)

    lost_at : (c : Bool) (y : X) (ys : List X) → keep y ≡ c → (test y ≡ true → keep y ≡ false)
        → find test (filter keep ys) ≡ None
        → find test (cond c (y ∷ filter keep ys) (filter keep ys)) ≡ None
    lost_at true y ys is lost rest =
        cond-false (test y) (Some y) (find test (filter keep ys))
        (false_from_ne_true (test y) (λ passes. both_ways (keep y) (lost passes) is))
        ∙ rest
    lost_at false y ys is lost rest = rest

    -- none where none that passes is kept
    pub find-lost : (xs : List X) → ((x : X) → test x ≡ true → keep x ≡ false)
        → find test (filter keep xs) ≡ None
    find-lost [] lost = refl
    find-lost (y ∷ ys) lost = lost_at (keep y) y ys refl (lost y) (find-lost ys lost)

-- ---- of what f makes of them

pub map_at : {X Y : Type 0} (f : X → Y) (b : Bool) (x : X) (o : Option X)
    → cond b (Some (f x)) (option_map f o) ≡ option_map f (cond b (Some x) o)
map_at f true x o = refl
map_at f false x o = refl

pub find-map : {X Y : Type 0} (f : X → Y) (test : Y → Bool) (xs : List X)
    → find test (map f xs) ≡ option_map f (find (λ (x : X). test (f x)) xs)
find-map f test [] = refl
find-map {Y = Y} f test (x ∷ xs) =
    ap (λ (o : Option Y). cond (test (f x)) (Some (f x)) o) (find-map f test xs)
    ∙ map_at f (test (f x)) x (find (λ z. test (f z)) xs)
