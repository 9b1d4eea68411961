-- Items by their names: one that is put among them, and one that is taken out.
use Rattle.std.proofs.Common.{◌≡◌, ◌≢◌, ◌∙◌, ◌⊎◌, ◌+◌, ◌≤◌, inl, inr, refl, sym, ap, subst, ℕ, Bool, true, false, cond, not, List, [], ◌∷◌, All, AllPairs, Option, Some, None, bytes_eq, arith}
use Rattle.std.specs.Prelude.{sum_by}
use Rattle.std.specs.Ordering.{ordering_reverse}
use Rattle.std.specs.declared.cmp.Ordering.{Ordering}
use Rattle.std.specs.declared.cmp.Ordering.TheVariants.{Less, Equal, Greater}
use Rattle.std.proofs.lemmas.Bool.{cond-false, cond-true, false_from_ne_true}
use Rattle.std.proofs.lemmas.Cmp.{tied_itself}
use Rattle.std.proofs.lemmas.List.Elements.{All-cons, All-nil}
use Rattle.std.proofs.lemmas.List.Kept.{AllPairs-cons, AllPairs-filter}
use Rattle.std.proofs.lemmas.List.Sums.{sum_by-cons}
use Rattle.std.proofs.lemmas.Option.{none-some}
use Rattle.std.proofs.lemmas.Slice.Eq.{bytes_eq-Decides}
use Rattle.identity.specs.Printed.{text_cmp}
use Rattle.machine.specs.DataFiles.{named, with_named, with_named_at, without_named}
use Rattle.machine.proofs.EntryOrder.{order}
use Rattle.machine.proofs.FirstFound.{find-kept, find-lost, find_in}
use Rattle.machine.proofs.Keys.{equal_texts}
use Rattle.machine.proofs.Members.{In, all_in, in_all, filter_in, pairs_head, pairs_tail}

-- ---- names

-- a text that is not below itself, and not that of another
pub not_equal : (a b : List ℕ) → text_cmp a b ≡ Less → a ≢ b
not_equal a b less same =
    apart (sym less ∙ ap (λ (t : List ℕ). text_cmp t b) same ∙ tied_itself order b)
  where
    apart : Less ≡ Equal → ⊥
    apart e = cc

pub other_name : (a b : List ℕ) → a ≢ b → bytes_eq a b ≡ false
other_name a b apart = false_from_ne_true (bytes_eq a b) (λ e. apart ((bytes_eq-Decides a b).0 e))

pub own_name : (a b : List ℕ) → a ≡ b → bytes_eq a b ≡ true
own_name a b same = (bytes_eq-Decides a b).1 same

flipped : (a b : List ℕ) → text_cmp a b ≡ Greater → text_cmp b a ≡ Less
flipped a b greater = order.antisymm b a ∙ ap ordering_reverse greater

module _ {A : Type 0} (name_of : A → List ℕ) where
  -- their names rise
  abbrev pub Rises : A → A → Type 0
  Rises a b = text_cmp (name_of a) (name_of b) ≡ Less

  skips : (name : List ℕ) (x : A) (rest : Option A) → name_of x ≢ name
      → cond (bytes_eq (name_of x) name) (Some x) rest ≡ rest
  skips name x rest apart =
      cond-false (bytes_eq (name_of x) name) (Some x) rest (other_name (name_of x) name apart)

  finds : (name : List ℕ) (x : A) (rest : Option A) → name_of x ≡ name
      → cond (bytes_eq (name_of x) name) (Some x) rest ≡ Some x
  finds name x rest same =
      cond-true (bytes_eq (name_of x) name) (Some x) rest (own_name (name_of x) name same)

  -- ---- one that is put among them

  module _ (item : A) where
    put_in_at : (o : Ordering) (x : A) (xs rest : List A) (y : A)
        → (In y rest → (item ≡ y) ⊎ In y xs) → In y (with_named_at o item x xs rest)
        → (item ≡ y) ⊎ In y (x ∷ xs)
    put_in_at Less x xs rest y behind (inl is) = inr (inl is)
    put_in_at Less x xs rest y behind (inr later) = past (behind later)
      where
        past : (item ≡ y) ⊎ In y xs → (item ≡ y) ⊎ In y (x ∷ xs)
        past (inl is) = inl is
        past (inr there) = inr (inr there)
    put_in_at Equal x xs rest y behind (inl is) = inl is
    put_in_at Equal x xs rest y behind (inr later) = inr (inr later)
    put_in_at Greater x xs rest y behind (inl is) = inl is
    put_in_at Greater x xs rest y behind (inr later) = inr later

    -- each is the item or was there
    pub with_named_in : (xs : List A) (y : A) → In y (with_named name_of item xs)
        → (item ≡ y) ⊎ In y xs
    with_named_in [] y (inl is) = inl is
    with_named_in [] y (inr none) = absurd none
    with_named_in (x ∷ xs) y there =
        put_in_at (text_cmp (name_of x) (name_of item)) x xs (with_named name_of item xs) y
        (with_named_in xs y) there

    pub all_with_named : (P : A → Type 0) (xs : List A) → P item → All P xs
        → All P (with_named name_of item xs)
    all_with_named P xs new all = in_all P (with_named name_of item xs) (λ y there. by y
        (with_named_in xs y there))
      where
        by : (y : A) → (item ≡ y) ⊎ In y xs → P y
        by y (inl is) = subst P is new
        by y (inr there) = all_in P xs y all there

    -- ---- their order

    order_at : (o : Ordering) (x : A) (xs rest : List A)
        → text_cmp (name_of x) (name_of item) ≡ o
        → All (Rises x) xs → AllPairs Rises xs
        → (Rises x item → All (Rises x) rest) → AllPairs Rises rest
        → AllPairs Rises (with_named_at o item x xs rest)
    order_at Less x xs rest is first pairs behind others =
        AllPairs-cons Rises x rest (behind is) others
    order_at Equal x xs rest is first pairs behind others =
        AllPairs-cons Rises item xs (in_all (Rises item) xs (λ y there.
        sym (order.congr (name_of x) (name_of item) (name_of y) is)
        ∙ all_in (Rises x) xs y first there)) pairs
    order_at Greater x xs rest is first pairs behind others =
        let less : Rises item x = flipped (name_of x) (name_of item) is in
        AllPairs-cons Rises item (x ∷ xs)
        (All-cons (Rises item) x xs less (in_all (Rises item) xs (λ y there.
        order.trans (name_of item) (name_of x) (name_of y) less
        (all_in (Rises x) xs y first there))))
        (AllPairs-cons Rises x xs first pairs)

    pub order-with_named : (xs : List A) → AllPairs Rises xs
        → AllPairs Rises (with_named name_of item xs)
    order-with_named [] pairs = AllPairs-cons Rises item [] (All-nil (Rises item)) pairs
    order-with_named (x ∷ xs) pairs =
        let first = pairs_head Rises x xs pairs in
        order_at (text_cmp (name_of x) (name_of item)) x xs (with_named name_of item xs) refl first
        (pairs_tail Rises x xs pairs) (λ less. all_with_named (Rises x) xs less first)
        (order-with_named xs (pairs_tail Rises x xs pairs))

    -- ---- the item of its name

    own_at : (o : Ordering) (x : A) (xs rest : List A) → text_cmp (name_of x) (name_of item) ≡ o
        → named name_of (name_of item) rest ≡ Some item
        → named name_of (name_of item) (with_named_at o item x xs rest) ≡ Some item
    own_at Less x xs rest is later =
        skips (name_of item) x (named name_of (name_of item) rest)
        (not_equal (name_of x) (name_of item) is)
        ∙ later
    own_at Equal x xs rest is later =
        finds (name_of item) item (named name_of (name_of item) xs) refl
    own_at Greater x xs rest is later =
        finds (name_of item) item (named name_of (name_of item) (x ∷ xs)) refl

    pub named-with_own : (xs : List A)
        → named name_of (name_of item) (with_named name_of item xs) ≡ Some item
    named-with_own [] = finds (name_of item) item None refl
    named-with_own (x ∷ xs) =
        own_at (text_cmp (name_of x) (name_of item)) x xs (with_named name_of item xs) refl
        (named-with_own xs)

    -- ---- the items of other names

    module _ (other : List ℕ) (apart : name_of item ≢ other) where
      other_at : (o : Ordering) (x : A) (xs rest : List A)
          → text_cmp (name_of x) (name_of item) ≡ o
          → named name_of other rest ≡ named name_of other xs
          → named name_of other (with_named_at o item x xs rest) ≡ named name_of other (x ∷ xs)
      other_at Less x xs rest is later =
          ap (λ (o : Option A). cond (bytes_eq (name_of x) other) (Some x) o) later
      other_at Equal x xs rest is later =
          let same : name_of x ≡ name_of item = equal_texts (name_of x) (name_of item) is in
          skips other item (named name_of other xs) apart
          ∙ sym (skips other x (named name_of other xs) (λ e. apart (sym same ∙ e)))
      other_at Greater x xs rest is later = skips other item (named name_of other (x ∷ xs)) apart

      pub named-with_other : (xs : List A)
          → named name_of other (with_named name_of item xs) ≡ named name_of other xs
      named-with_other [] = skips other item None apart
      named-with_other (x ∷ xs) =
          other_at (text_cmp (name_of x) (name_of item)) x xs (with_named name_of item xs) refl
          (named-with_other xs)

    -- ---- sums

    module _ (w : A → ℕ) where
      sum_at : (o : Ordering) (x : A) (xs rest : List A)
          → sum_by w rest ≤ w item + sum_by w xs
          → sum_by w (with_named_at o item x xs rest) ≤ w item + sum_by w (x ∷ xs)
      sum_at Less x xs rest later = omega (arith, later, sum_by-cons w x rest, sum_by-cons w x xs)
      sum_at Equal x xs rest later = omega (arith, sum_by-cons w item xs, sum_by-cons w x xs)
      sum_at Greater x xs rest later = omega (arith, sum_by-cons w item (x ∷ xs))

      -- at most the item is more
      pub sum-with_named : (xs : List A)
          → sum_by w (with_named name_of item xs) ≤ w item + sum_by w xs
      sum-with_named [] = omega (arith, sum_by-cons w item [])
      sum-with_named (x ∷ xs) =
          sum_at (text_cmp (name_of x) (name_of item)) x xs (with_named name_of item xs)
          (sum-with_named xs)

      module _ (by_name : (x : A) → name_of x ≡ name_of item → w x ≡ w item) where
        none_there : (x : A) (xs : List A) → Rises item x → All (Rises x) xs → (found : A)
            → named name_of (name_of item) (x ∷ xs) ≡ Some found → ⊥
        none_there x xs less first found is =
            let there = find_in (λ (y : A). bytes_eq (name_of y) (name_of item)) (x ∷ xs) found is in
            by there.0 ((bytes_eq-Decides (name_of found) (name_of item)).0 there.1)
          where
            by : In found (x ∷ xs) → name_of found ≡ name_of item → ⊥
            by (inl same) own =
                not_equal (name_of item) (name_of x) less (sym own ∙ ap name_of (sym same))
            by (inr later) own =
                not_equal (name_of item) (name_of found)
                (order.trans (name_of item) (name_of x) (name_of found) less
                (all_in (Rises x) xs found first later)) (sym own)

        known_at : (o : Ordering) (x : A) (xs rest : List A) (found : A)
            → text_cmp (name_of x) (name_of item) ≡ o → All (Rises x) xs
            → named name_of (name_of item) (x ∷ xs) ≡ Some found
            → (named name_of (name_of item) xs ≡ Some found → sum_by w rest ≡ sum_by w xs)
            → sum_by w (with_named_at o item x xs rest) ≡ sum_by w (x ∷ xs)
        known_at Less x xs rest found is first there later =
            let same = later (sym (skips (name_of item) x (named name_of (name_of item) xs)
            (not_equal (name_of x) (name_of item) is))
            ∙ there) in
            omega (arith, same, sum_by-cons w x rest, sum_by-cons w x xs)
        known_at Equal x xs rest found is first there later =
            let same = by_name x (equal_texts (name_of x) (name_of item) is) in
            omega (arith, same, sum_by-cons w item xs, sum_by-cons w x xs)
        known_at Greater x xs rest found is first there later =
            absurd (none_there x xs (flipped (name_of x) (name_of item) is) first found there)

        -- where the name was there, a sum by names stays
        pub sum-with_known : (xs : List A) → AllPairs Rises xs → (found : A)
            → named name_of (name_of item) xs ≡ Some found
            → sum_by w (with_named name_of item xs) ≡ sum_by w xs
        sum-with_known [] pairs found is = absurd (none-some found is)
        sum-with_known (x ∷ xs) pairs found is =
            known_at (text_cmp (name_of x) (name_of item)) x xs (with_named name_of item xs) found
            refl (pairs_head Rises x xs pairs) is
            (sum-with_known xs (pairs_tail Rises x xs pairs) found)

  -- ---- one that is taken out

  module _ (name : List ℕ) where
    abbrev stays : A → Bool
    stays x = not (bytes_eq (name_of x) name)

    pub all_without_named : (P : A → Type 0) (xs : List A) → All P xs
        → All P (without_named name_of name xs)
    all_without_named P xs all =
        in_all P (without_named name_of name xs)
        (λ y there. all_in P xs y all (filter_in stays xs y there).1)

    pub order-without_named : (xs : List A) → AllPairs Rises xs
        → AllPairs Rises (without_named name_of name xs)
    order-without_named xs pairs = AllPairs-filter Rises stays xs pairs

    pub named-without_own : (xs : List A)
        → named name_of name (without_named name_of name xs) ≡ None
    named-without_own xs =
        find-lost (λ (x : A). bytes_eq (name_of x) name) stays xs (λ x is. ap not is)

    pub named-without_other : (other : List ℕ) → other ≢ name → (xs : List A)
        → named name_of other (without_named name_of name xs) ≡ named name_of other xs
    named-without_other other apart xs =
        find-kept (λ (x : A). bytes_eq (name_of x) other) stays xs (λ x is.
        ap not (other_name (name_of x) name
        (λ e. apart (sym ((bytes_eq-Decides (name_of x) other).0 is) ∙ e))))

    less_at : (w : A → ℕ) (b : Bool) (x : A) (kept xs : List A) → sum_by w kept ≤ sum_by w xs
        → sum_by w (cond b (x ∷ kept) kept) ≤ sum_by w (x ∷ xs)
    less_at w true x kept xs less = omega (arith, less, sum_by-cons w x kept, sum_by-cons w x xs)
    less_at w false x kept xs less = omega (arith, less, sum_by-cons w x xs)

    pub sum-without_named : (w : A → ℕ) (xs : List A)
        → sum_by w (without_named name_of name xs) ≤ sum_by w xs
    sum-without_named w [] = omega arith
    sum-without_named w (x ∷ xs) =
        less_at w (stays x) x (without_named name_of name xs) xs (sum-without_named w xs)
