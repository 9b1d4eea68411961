-- What writes and stops leave of bytes that are known in parts.
use Rattle.std.specs.Prelude.{◌≡◌, ℕ, List, ◌++◌, length}

-- the front stays, and anything may stand behind it
pub record KeepsFront (front bytes : List ℕ) : Type 0 where
  pub back : List ℕ
  pub split : bytes ≡ front ++ back

-- the parts round a range stay
pub record KeepsAround (front back : List ℕ) (n : ℕ) (bytes : List ℕ) : Type 0 where
  pub middle : List ℕ
  pub size : length middle ≡ n
  pub split : bytes ≡ front ++ (middle ++ back)
