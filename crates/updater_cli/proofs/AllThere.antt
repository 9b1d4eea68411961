-- Links of which none is gone: the number of each is its place.
use Rattle.std.proofs.Common.{◌≡◌, ℕ, zero, suc, ◌<◌, refl, ap, arith}
use Rattle.links.specs.Links.{count_there, number_at}
use Rattle.updater_cli.specs.Offered.{all_there}

pub count_all : (n : ℕ) → count_there (all_there n) ≡ n
count_all zero = refl
count_all (suc n) = ap suc (count_all n)

pub number_all : (n k : ℕ) → k < n → number_at (all_there n) k ≡ k
number_all zero k less = absurd (omega arith)
number_all (suc n) zero less = refl
number_all (suc n) (suc k) less = ap suc (number_all n k (omega arith))
