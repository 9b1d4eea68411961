-- Data files in order of their names.
use Rattle.std.proofs.Common.{◌≡◌, ◌≢◌, ◌∙◌, ◌⊎◌, inl, inr, refl, sym, ap, subst, ℕ, List, [], ◌∷◌, All, AllPairs, arith}
use Rattle.std.specs.Ordering.{ordering_reverse}
use Rattle.std.specs.declared.cmp.Ordering.{Ordering}
use Rattle.std.specs.declared.cmp.Ordering.TheVariants.{Less, Equal, Greater}
use Rattle.std.proofs.lemmas.Cmp.{tied_itself}
use Rattle.std.proofs.lemmas.List.Elements.{All-cons, All-head, All-tail, All-weaker}
use Rattle.std.proofs.lemmas.List.Kept.{AllPairs-cons}
use Rattle.identity.specs.Printed.{text_cmp}
use Rattle.machine.specs.Views.{DataFile}
use Rattle.machine.proofs.EntryOrder.{order}
use Rattle.machine.proofs.Keys.{equal_texts}
use Rattle.machine.proofs.Members.{In, all_in, in_all, pairs_head, pairs_tail}

abbrev pub IsBefore : DataFile → DataFile → Type 0
IsBefore f g = text_cmp f.name g.name ≡ Less

abbrev pub IsNamedOther : DataFile → DataFile → Type 0
IsNamedOther f g = ◌≢◌ {A = List ℕ} f.name g.name

-- ---- of one order there is one list

not_itself : (f : DataFile) → IsBefore f f → ⊥
not_itself f less = apart (sym less ∙ tied_itself order f.name)
  where
    apart : Less ≡ Equal → ⊥
    apart e = cc

not_both : (f g : DataFile) → IsBefore f g → IsBefore g f → ⊥
not_both f g first second = not_itself f (order.trans f.name g.name f.name first second)

module _ (f g : DataFile) (fs gs : List DataFile) (first : AllPairs IsBefore (f ∷ fs)) (second : AllPairs IsBefore (g ∷ gs)) (to : (x : DataFile) → In x (f ∷ fs) → In x (g ∷ gs)) (from : (x : DataFile) → In x (g ∷ gs) → In x (f ∷ fs)) where
  one_front : f ≡ g
  one_front = by (to f (inl refl)) (from g (inl refl))
    where
      by : In f (g ∷ gs) → In g (f ∷ fs) → f ≡ g
      by (inl is) there = sym is
      by (inr later) (inl is) = is
      by (inr later) (inr behind) = absurd (not_both f g (all_in (IsBefore f) fs g (pairs_head IsBefore f fs first) behind) (all_in (IsBefore g) gs f (pairs_head IsBefore g gs second) later))

  one_behind : (x : DataFile) → In x fs → In x gs
  one_behind x there = by (to x (inr there))
    where
      by : In x (g ∷ gs) → In x gs
      by (inl is) = absurd (not_itself x (subst (λ (y : DataFile). IsBefore y x) (one_front ∙ is) (all_in (IsBefore f) fs x (pairs_head IsBefore f fs first) there)))
      by (inr later) = later

pub one_list : (fs gs : List DataFile) → AllPairs IsBefore fs → AllPairs IsBefore gs → ((x : DataFile) → In x fs → In x gs) → ((x : DataFile) → In x gs → In x fs) → fs ≡ gs
one_list [] [] first second to from = refl
one_list [] (g ∷ gs) first second to from = absurd (from g (inl refl))
one_list (f ∷ fs) [] first second to from = absurd (to f (inl refl))
one_list (f ∷ fs) (g ∷ gs) first second to from =
    let front = one_front f g fs gs first second to from in
    let back = one_front g f gs fs second first from to in
    let rest = one_list fs gs (pairs_tail IsBefore f fs first) (pairs_tail IsBefore g gs second) (one_behind f g fs gs first second to from) (one_behind g f gs fs second first from to) in
    ap (λ (x : DataFile). x ∷ fs) front ∙ ap (λ (xs : List DataFile). g ∷ xs) rest

-- ---- a list can be put in order

put_at : Ordering → DataFile → DataFile → List DataFile → List DataFile → List DataFile
put_at Less f g gs rest = f ∷ g ∷ gs
put_at Equal f g gs rest = g ∷ rest
put_at Greater f g gs rest = g ∷ rest

put : DataFile → List DataFile → List DataFile
put f [] = f ∷ []
put f (g ∷ gs) = put_at (text_cmp f.name g.name) f g gs (put f gs)

pub in_order : List DataFile → List DataFile
in_order [] = []
in_order (f ∷ fs) = put f (in_order fs)

put_in_at : (o : Ordering) (f g : DataFile) (gs rest : List DataFile) (x : DataFile) → (In x rest → (f ≡ x) ⊎ In x gs) → In x (put_at o f g gs rest) → (f ≡ x) ⊎ In x (g ∷ gs)
unfolding put_at
put_in_at Less f g gs rest x behind there = there
put_in_at Equal f g gs rest x behind (inl is) = inr (inl is)
put_in_at Equal f g gs rest x behind (inr later) = past (behind later)
  where
    past : (f ≡ x) ⊎ In x gs → (f ≡ x) ⊎ In x (g ∷ gs)
    past (inl is) = inl is
    past (inr there) = inr (inr there)
put_in_at Greater f g gs rest x behind (inl is) = inr (inl is)
put_in_at Greater f g gs rest x behind (inr later) = past (behind later)
  where
    past : (f ≡ x) ⊎ In x gs → (f ≡ x) ⊎ In x (g ∷ gs)
    past (inl is) = inl is
    past (inr there) = inr (inr there)

put_in : (f : DataFile) (gs : List DataFile) (x : DataFile) → In x (put f gs) → (f ≡ x) ⊎ In x gs
unfolding put
put_in f [] x there = there
put_in f (g ∷ gs) x there = put_in_at (text_cmp f.name g.name) f g gs (put f gs) x (put_in f gs x) there

in_put_at : (o : Ordering) (f g : DataFile) (gs rest : List DataFile) (x : DataFile) → ((f ≡ x) ⊎ In x gs → In x rest) → (f ≡ x) ⊎ In x (g ∷ gs) → In x (put_at o f g gs rest)
unfolding put_at
in_put_at Less f g gs rest x behind there = there
in_put_at Equal f g gs rest x behind (inl is) = inr (behind (inl is))
in_put_at Equal f g gs rest x behind (inr (inl is)) = inl is
in_put_at Equal f g gs rest x behind (inr (inr later)) = inr (behind (inr later))
in_put_at Greater f g gs rest x behind (inl is) = inr (behind (inl is))
in_put_at Greater f g gs rest x behind (inr (inl is)) = inl is
in_put_at Greater f g gs rest x behind (inr (inr later)) = inr (behind (inr later))

in_put : (f : DataFile) (gs : List DataFile) (x : DataFile) → (f ≡ x) ⊎ In x gs → In x (put f gs)
unfolding put
in_put f [] x there = there
in_put f (g ∷ gs) x there = in_put_at (text_cmp f.name g.name) f g gs (put f gs) x (in_put f gs x) there

pub order_in : (fs : List DataFile) (x : DataFile) → In x (in_order fs) → In x fs
unfolding in_order
order_in [] x there = there
order_in (f ∷ fs) x there = past (put_in f (in_order fs) x there) (order_in fs x)
  where
    past : (f ≡ x) ⊎ In x (in_order fs) → (In x (in_order fs) → In x fs) → In x (f ∷ fs)
    past (inl is) behind = inl is
    past (inr later) behind = inr (behind later)

pub in_order_in : (fs : List DataFile) (x : DataFile) → In x fs → In x (in_order fs)
unfolding in_order
in_order_in [] x there = there
in_order_in (f ∷ fs) x (inl is) = in_put f (in_order fs) x (inl is)
in_order_in (f ∷ fs) x (inr later) = in_put f (in_order fs) x (inr (in_order_in fs x later))

flip : (f g : DataFile) → text_cmp f.name g.name ≡ Greater → IsBefore g f
flip f g greater = order.antisymm g.name f.name ∙ ap ordering_reverse greater

put_order_at : (o : Ordering) (f g : DataFile) (gs rest : List DataFile) → text_cmp f.name g.name ≡ o → IsNamedOther f g → AllPairs IsBefore (g ∷ gs) → AllPairs IsBefore rest → ((x : DataFile) → In x rest → (f ≡ x) ⊎ In x gs) → AllPairs IsBefore (put_at o f g gs rest)
unfolding put_at
put_order_at Less f g gs rest is other ordered behind of =
    AllPairs-cons IsBefore f (g ∷ gs)
    (All-cons (IsBefore f) g gs is (All-weaker (IsBefore g) (IsBefore f) (λ x less. order.trans f.name g.name x.name is less) gs (pairs_head IsBefore g gs ordered)))
    ordered
put_order_at Equal f g gs rest is other ordered behind of = absurd (other (equal_texts f.name g.name is))
put_order_at Greater f g gs rest is other ordered behind of = AllPairs-cons IsBefore g rest (in_all (IsBefore g) rest (λ x there. by x (of x there))) behind
  where
    by : (x : DataFile) → (f ≡ x) ⊎ In x gs → IsBefore g x
    by x (inl same) = subst (λ (y : DataFile). IsBefore g y) same (flip f g is)
    by x (inr later) = all_in (IsBefore g) gs x (pairs_head IsBefore g gs ordered) later

put_order : (f : DataFile) (gs : List DataFile) → All (IsNamedOther f) gs → AllPairs IsBefore gs → AllPairs IsBefore (put f gs)
unfolding put
put_order f [] others ordered = λ i j d lt within. absurd (omega arith)
put_order f (g ∷ gs) others ordered =
    put_order_at (text_cmp f.name g.name) f g gs (put f gs) refl (All-head (IsNamedOther f) g gs others) ordered
    (put_order f gs (All-tail (IsNamedOther f) g gs others) (pairs_tail IsBefore g gs ordered)) (put_in f gs)

pub order_is : (fs : List DataFile) → AllPairs IsNamedOther fs → AllPairs IsBefore (in_order fs)
unfolding in_order
order_is [] others = λ i j d lt within. absurd (omega arith)
order_is (f ∷ fs) others =
    put_order f (in_order fs) (in_all (IsNamedOther f) (in_order fs) (λ x there. all_in (IsNamedOther f) fs x (pairs_head IsNamedOther f fs others) (order_in fs x there)))
    (order_is fs (pairs_tail IsNamedOther f fs others))
