-- Links by their numbers and by their places.
use Rattle.std.proofs.Common.{◌≡◌, ◌≢◌, ℕ, zero, suc, ◌+◌, ◌<◌, ◌≤◌, Bool, true, false, List, [], ◌∷◌, length, set, refl, ap, ◌∙◌, ⊎_elim, arith}
use Rattle.std.proofs.lemmas.Bool.{cases_order, false≢true}
use Rattle.std.proofs.lemmas.List.{length-set}
use Rattle.links.specs.Links.{LinksState, Retires, count_there, counted, failures_of, is_there, number_at}
use Rattle.links.proofs.Counted.{counted_same}

-- ---- the number at a place

-- is that of a link that is left
pub there_at : (there : List Bool) (k : ℕ) → k < count_there there → is_there there (number_at there k) ≡ true
there_at [] k less = absurd (omega arith)
there_at (true ∷ there) zero less = refl
there_at (true ∷ there) (suc k) less = there_at there k (omega arith)
there_at (false ∷ there) k less = there_at there k less

-- a number that is left is one of all
pub known_there : (there : List Bool) (n : ℕ) → is_there there n ≡ true → n < length there
known_there [] n is = absurd (false≢true is)
known_there (one ∷ there) zero is = omega arith
known_there (one ∷ there) (suc n) is = let rest = known_there there n is in omega (arith, rest)

pub known_at : (there : List Bool) (k : ℕ) → k < count_there there → number_at there k < length there
known_at there k less = known_there there (number_at there k) (there_at there k less)

-- numbers rise with the places
pub numbers_rise : (there : List Bool) (j k : ℕ) → j < k → k < count_there there → number_at there j < number_at there k
numbers_rise [] j k below less = absurd (omega arith)
numbers_rise (true ∷ there) j zero below less = absurd (omega arith)
numbers_rise (true ∷ there) zero (suc k) below less = omega arith
numbers_rise (true ∷ there) (suc j) (suc k) below less =
    let rest = numbers_rise there j k (omega arith) (omega arith) in omega (arith, rest)
numbers_rise (false ∷ there) j k below less =
    let rest = numbers_rise there j k below less in omega (arith, rest)

-- so those at two places differ
pub numbers_apart : (there : List Bool) (j k : ℕ) → j < count_there there → k < count_there there → j ≢ k → number_at there j ≢ number_at there k
numbers_apart there j k here less other = λ same.
    ⊎_elim (λ e. other e)
    (λ apart. ⊎_elim
    (λ below. let rest = numbers_rise there j k below less in absurd (omega (arith, rest, same)))
    (λ above. let rest = numbers_rise there k j above here in absurd (omega (arith, rest, same))) apart)
    (cases_order j k)

-- the place of a link that is left
pub record PlaceOf (there : List Bool) (n : ℕ) : Type 0 where
  pub place : ℕ
  pub within : place < count_there there
  pub is : number_at there place ≡ n

pub place_of : (there : List Bool) (n : ℕ) → is_there there n ≡ true → PlaceOf there n
place_of [] n is = absurd (false≢true is)
place_of (true ∷ there) zero is = record { place = 0; within = omega arith; is = refl }
place_of (true ∷ there) (suc n) is =
    let rest = place_of there n is in
    record { place = suc rest.place; within = omega (arith, rest.within); is = ap suc rest.is }
place_of (false ∷ there) zero is = absurd (false≢true is)
place_of (false ∷ there) (suc n) is =
    let rest = place_of there n is in
    record { place = rest.place; within = rest.within; is = ap suc rest.is }

-- ---- one that is gone

-- those that are left were left before
pub there_before : (there : List Bool) (m n : ℕ) → is_there (set there m false) n ≡ true → is_there there n ≡ true
there_before [] m n is = is
there_before (one ∷ there) zero zero is = absurd (false≢true is)
there_before (one ∷ there) zero (suc n) is = is
there_before (one ∷ there) (suc m) zero is = is
there_before (one ∷ there) (suc m) (suc n) is = there_before there m n is

-- there is one fewer
pub one_fewer : (there : List Bool) (k : ℕ) → k < count_there there
    → count_there (set there (number_at there k) false) + 1 ≡ count_there there
one_fewer [] k less = absurd (omega arith)
one_fewer (true ∷ there) zero less = omega arith
one_fewer (true ∷ there) (suc k) less = let rest = one_fewer there k (omega arith) in omega (arith, rest)
one_fewer (false ∷ there) k less = one_fewer there k less

-- those before it keep their places
pub number_before : (there : List Bool) (k j : ℕ) → j < k → k < count_there there
    → number_at (set there (number_at there k) false) j ≡ number_at there j
number_before [] k j below less = absurd (omega arith)
number_before (true ∷ there) zero j below less = absurd (omega arith)
number_before (true ∷ there) (suc k) zero below less = refl
number_before (true ∷ there) (suc k) (suc j) below less = ap suc (number_before there k j (omega arith) (omega arith))
number_before (false ∷ there) k j below less = ap suc (number_before there k j below less)

-- and those behind it move up by one
pub number_behind : (there : List Bool) (k j : ℕ) → k ≤ j → k < count_there there
    → number_at (set there (number_at there k) false) j ≡ number_at there (suc j)
number_behind [] k j from less = absurd (omega arith)
number_behind (true ∷ there) zero j from less = refl
number_behind (true ∷ there) (suc k) zero from less = absurd (omega arith)
number_behind (true ∷ there) (suc k) (suc j) from less = ap suc (number_behind there k j (omega arith) (omega arith))
number_behind (false ∷ there) k j from less = ap suc (number_behind there k j from less)

-- the failures stay
pub failures_stay : (place : ℕ) (old new : LinksState) → Retires place old new
    → failures_of new ≡ failures_of old
failures_stay place old new retires =
    let all : length new.there ≡ length old.there =
    ap length retires.there ∙ length-set old.there (number_at old.there place) false in
    ap (counted new.link) all ∙ counted_same old.link new.link (length old.there)
    (λ n less. (retires.links n less).count)
