-- What holds of each two elements of lists that are joined.
use Rattle.std.proofs.Common.{◌⊎◌, ◌++◌, inl, inr, refl, subst, List, [], ◌∷◌, AllPairs, arith}
use Rattle.std.proofs.lemmas.List.Kept.{AllPairs-cons}
use Rattle.machine.proofs.Members.{In, all_in, in_all, in_either, in_left, in_right, pairs_head, pairs_tail}

module _ {X : Type 0} (R : X → X → Type 0) where
  pub pairs_left : (xs ys : List X) → AllPairs R (xs ++ ys) → AllPairs R xs
  pairs_left [] ys pairs = λ i j d lt within. absurd (omega arith)
  pairs_left (x ∷ xs) ys pairs =
      AllPairs-cons R x xs
      (in_all (R x) xs (λ y there. all_in (R x) (xs ++ ys) y (pairs_head R x (xs ++ ys) pairs)
      (in_left xs ys y there)))
      (pairs_left xs ys (pairs_tail R x (xs ++ ys) pairs))

  pub pairs_right : (xs ys : List X) → AllPairs R (xs ++ ys) → AllPairs R ys
  pairs_right [] ys pairs = pairs
  pairs_right (x ∷ xs) ys pairs = pairs_right xs ys (pairs_tail R x (xs ++ ys) pairs)

  -- one of the first and one of the second
  pub pairs_cross : (xs ys : List X) → AllPairs R (xs ++ ys) → (x y : X) → In x xs → In y ys
      → R x y
  pairs_cross [] ys pairs x y a b = absurd a
  pairs_cross (z ∷ zs) ys pairs x y (inl is) b =
      subst (λ (w : X). R w y) is
      (all_in (R z) (zs ++ ys) y (pairs_head R z (zs ++ ys) pairs) (in_right zs ys y b))
  pairs_cross (z ∷ zs) ys pairs x y (inr a) b =
      pairs_cross zs ys (pairs_tail R z (zs ++ ys) pairs) x y a b

  pub pairs_joined : (xs ys : List X) → AllPairs R xs → AllPairs R ys
      → ((x y : X) → In x xs → In y ys → R x y) → AllPairs R (xs ++ ys)
  pairs_joined [] ys first second cross = second
  pairs_joined (x ∷ xs) ys first second cross =
      AllPairs-cons R x (xs ++ ys)
      (in_all (R x) (xs ++ ys) (λ y there. by y (in_either xs ys y there)))
      (pairs_joined xs ys (pairs_tail R x xs first) second (λ u v a b. cross u v (inr a) b))
    where
      by : (y : X) → In y xs ⊎ In y ys → R x y
      by y (inl a) = all_in (R x) xs y (pairs_head R x xs first) a
      by y (inr b) = cross x y (inl refl) b
