-- Lists of which one element is changed, and elements that a part tells apart.
use Rattle.std.proofs.Common.{◌≡◌, ◌≢◌, ◌∙◌, ◌⊎◌, ◌++◌, inl, inr, refl, sym, ap, subst, List, [], ◌∷◌, map, All, AllPairs, arith}
use Rattle.std.specs.Prelude.{Any, flat_map}
use Rattle.std.proofs.lemmas.List.Kept.{AllPairs-cons}
use Rattle.machine.proofs.Members.{In, all_in, contains_in, in_all, in_contains, in_either, in_map, map_in, pairs_head, pairs_tail}

-- ---- what f makes of each

module _ {X Y : Type 0} (f : X → Y) where
  -- it holds of each
  pub all_mapped : (P : X → Type 0) (Q : Y → Type 0) (xs : List X) → ((x : X) → In x xs → P x → Q (f x))
      → All P xs → All Q (map f xs)
  all_mapped P Q xs each all =
      in_all Q (map f xs) (λ y there. (let from = map_in f xs y there in
      subst Q from.2 (each from.0 from.1 (all_in P xs from.0 all from.1))))

  -- and of one
  pub any_mapped : (P : X → Type 0) (Q : Y → Type 0) (xs : List X) → ((x : X) → P x → Q (f x))
      → Any P xs → Any Q (map f xs)
  any_mapped P Q xs each found =
      let there = in_map f xs found.1 (in_contains xs found.1 (found.0, found.2, found.3)) in
      let at = contains_in (map f xs) (f found.1) there in
      (at.0, f found.1, at.1, at.2, each found.1 found.4)

  -- a relation of them is one of what they were
  pub pairs_unmap : (R : Y → Y → Type 0) (xs : List X) → AllPairs R (map f xs)
      → AllPairs (λ x y. R (f x) (f y)) xs
  pairs_unmap R [] pairs = λ i j d lt within. absurd (omega arith)
  pairs_unmap R (x ∷ xs) pairs =
      AllPairs-cons (λ y z. R (f y) (f z)) x xs
      (in_all (λ y. R (f x) (f y)) xs (λ y there. all_in (R (f x)) (map f xs) (f y)
      (pairs_head R (f x) (map f xs) pairs) (in_map f xs y there)))
      (pairs_unmap R xs (pairs_tail R (f x) (map f xs) pairs))

-- a part that f leaves
pub same_parts : {X Z : Type 0} (f : X → X) (part : X → Z) → ((x : X) → part (f x) ≡ part x)
    → (xs : List X) → map part (map f xs) ≡ map part xs
same_parts f part same [] = refl
same_parts {Z = Z} f part same (x ∷ xs) =
    ap (λ (z : Z). z ∷ map part (map f xs)) (same x)
    ∙ ap (λ (zs : List Z). part x ∷ zs) (same_parts f part same xs)

pub same_lists : {X Z : Type 0} (f : X → X) (part : X → List Z) → ((x : X) → part (f x) ≡ part x)
    → (xs : List X) → flat_map part (map f xs) ≡ flat_map part xs
same_lists f part same [] = refl
same_lists {Z = Z} f part same (x ∷ xs) =
    ap (λ (zs : List Z). zs ++ flat_map part (map f xs)) (same x)
    ∙ ap (λ (zs : List Z). part x ++ zs) (same_lists f part same xs)

pub flat_map_in : {X Z : Type 0} (g : X → List Z) (xs : List X) (z : Z) → In z (flat_map g xs)
    → (x : X) × In x xs × In z (g x)
flat_map_in g [] z there = absurd there
flat_map_in {X} {Z} g (x ∷ xs) z there = by (in_either (g x) (flat_map g xs) z there) (flat_map_in g xs z)
  where
    by : In z (g x) ⊎ In z (flat_map g xs)
        → (In z (flat_map g xs) → (y : X) × In y xs × In z (g y))
        → (y : X) × In y (x ∷ xs) × In z (g y)
    by (inl first) behind = (x, inl refl, first)
    by (inr later) behind = let rest = behind later in (rest.0, inr rest.1, rest.2)

-- ---- elements that a part tells apart

module _ {X K : Type 0} (part : X → K) where
  pub one_of : (xs : List X) → AllPairs (λ (x y : X). part x ≢ part y) xs → (x y : X) → In x xs
      → In y xs → part x ≡ part y → x ≡ y
  one_of [] apart x y a b same = absurd a
  one_of (z ∷ zs) apart x y (inl a) (inl b) same = sym a ∙ b
  one_of (z ∷ zs) apart x y (inl a) (inr b) same =
      absurd (all_in (λ (w : X). part z ≢ part w) zs y
      (pairs_head (λ (v w : X). part v ≢ part w) z zs apart) b (ap part a ∙ same))
  one_of (z ∷ zs) apart x y (inr a) (inl b) same =
      absurd (all_in (λ (w : X). part z ≢ part w) zs x
      (pairs_head (λ (v w : X). part v ≢ part w) z zs apart) a (ap part b ∙ sym same))
  one_of (z ∷ zs) apart x y (inr a) (inr b) same =
      one_of zs (pairs_tail (λ (v w : X). part v ≢ part w) z zs apart) x y a b same
