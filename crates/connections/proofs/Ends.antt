-- Lists that end in an item, and what the calls of a host's connections make of the last one.
use Rattle.std.proofs.Common.{◌≡◌, ℕ, ◌<◌, List, [], ◌∷◌, ◌++◌, length, take, ap, sym, ◌∙◌, refl, arith, subst}
use Rattle.std.specs.Prelude.{◌-◌, slice_index_or}
use Rattle.std.proofs.lemmas.Grind.{common_steps}
use Rattle.connections.specs.Door.{Accepted, ReceivesOnLast, SendsOnLast}
use Rattle.outside.specs.Streams.{Consumes}

-- a list that ends in an item
pub record Ends {A : Type 0} (xs : List A) : Type 0 where
  pub earlier : List A
  pub last : A
  pub is : xs ≡ earlier ++ last ∷ []

-- a list that is not empty ends in an item
pub ends : {A : Type 0} → (xs : List A) → 0 < length xs → Ends xs
ends [] some = absurd (omega arith)
ends (x ∷ []) some = record { earlier = []; last = x; is = refl }
ends (x ∷ y ∷ xs) some =
    let rest : Ends (y ∷ xs) = ends (y ∷ xs) (omega arith) in
    record { earlier = x ∷ rest.earlier; last = rest.last; is = ap (λ ys. x ∷ ys) rest.is }

-- two lists with an item behind each are equal where both parts are
pub record SameEnd {A : Type 0} (xs ys : List A) (x y : A) : Type 0 where
  pub earlier : xs ≡ ys
  pub last : x ≡ y

-- what ends in an item is not empty
pub never_empty : {A : Type 0} → (xs : List A) (x : A) → [] ≡ xs ++ x ∷ [] → ⊥
never_empty [] x is = cc
never_empty (y ∷ xs) x is = cc

pub same_end : {A : Type 0} → (xs ys : List A) (x y : A) → xs ++ x ∷ [] ≡ ys ++ y ∷ [] → SameEnd xs ys x y
same_end [] [] x y is = record { earlier = refl; last = cc }
same_end [] (b ∷ ys) x y is = let rest : [] ≡ ys ++ y ∷ [] = cc in absurd (never_empty ys y rest)
same_end (a ∷ xs) [] x y is = let rest : [] ≡ xs ++ x ∷ [] = cc in absurd (never_empty xs x rest)
same_end (a ∷ xs) (b ∷ ys) x y is =
    let rest : xs ++ x ∷ [] ≡ ys ++ y ∷ [] = cc in
    let same : SameEnd xs ys x y = same_end xs ys x y rest in
    let first : a ≡ b = cc in
    let others : xs ≡ ys = same.earlier in
    record { earlier = cc; last = same.last }

-- the last item, and those before it
pub last_is : {A : Type 0} → (xs : List A) (x d : A) → slice_index_or (xs ++ x ∷ []) (length (xs ++ x ∷ []) - 1) d ≡ x
last_is xs x d = grind (arith, common_steps)

pub before_last : {A : Type 0} → (xs : List A) (x : A) → take (length (xs ++ x ∷ []) - 1) (xs ++ x ∷ []) ≡ xs
before_last xs x = grind (arith, common_steps)

-- what receiving makes of connections that end in a known one
pub record ReceivedOn (earlier : List Accepted) (last : Accepted) (new : List Accepted) (buf : List ℕ) (n : ℕ) : Type 0 where
  pub left : List ℕ
  pub after : new ≡ earlier ++ record last { left = left } ∷ []
  pub given : Consumes last.left left buf n

pub received_on : (earlier : List Accepted) (last : Accepted) (old new : List Accepted) (buf : List ℕ) (n : ℕ) → old ≡ earlier ++ last ∷ []
    → ReceivesOnLast old new buf n → ReceivedOn earlier last new buf n
received_on earlier last old new buf n is r =
    let same : SameEnd r.earlier earlier r.last last = same_end r.earlier earlier r.last last (sym r.before ∙ is) in
    record {
      left = r.left;
      after = r.after ∙ ap (λ (e : List Accepted). e ++ record r.last { left = r.left } ∷ []) same.earlier ∙ ap (λ (c : Accepted). earlier ++ record c { left = r.left } ∷ []) same.last;
      given = subst (λ (c : Accepted). Consumes c.left r.left buf n) same.last r.given;
    }

-- what sending makes of connections that end in a known one
pub sent_on : (earlier : List Accepted) (last : Accepted) (old new : List Accepted) (bytes : List ℕ) → old ≡ earlier ++ last ∷ []
    → SendsOnLast old new bytes → new ≡ earlier ++ record last { sent = last.sent ++ bytes } ∷ []
sent_on earlier last old new bytes is s =
    let same : SameEnd s.earlier earlier s.last last = same_end s.earlier earlier s.last last (sym s.before ∙ is) in
    s.after ∙ ap (λ (e : List Accepted). e ++ record s.last { sent = s.last.sent ++ bytes } ∷ []) same.earlier ∙ ap (λ (c : Accepted). earlier ++ record c { sent = c.sent ++ bytes } ∷ []) same.last
