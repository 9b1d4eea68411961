-- The numbers of references stay small, and are read digit by digit.
use Rattle.std.proofs.Common.{◌≡◌, ℕ, zero, suc, ◌+◌, ◌-◌, ◌*◌, ◌^◌, ◌<◌, ◌≤◌, Bool, List, ◌∷◌, Some, refl, arith}
use Rattle.std.proofs.Math.Nat.{pow-suc}
use Rattle.std.proofs.lemmas.Bool.{ne_eqb}
use Rattle.manifest_tree.specs.Lexis.{digit_of, base_of, digits_on}

product : (a b p : ℕ) → a ≤ b → a * p ≤ b * p
product a b p le = grind arith

power_pos : (k : ℕ) → 1 ≤ 16 ^ k
power_pos zero = omega arith
power_pos (suc k) = omega (arith, pow-suc 16 k, power_pos k)

pub number_step : (n base d more limit : ℕ) → base ≤ 16 → d < 16 → (n + 1) * 16 ^ (suc more) ≤ limit → (n * base + d + 1) * 16 ^ more ≤ limit
number_step n base d more limit small digit fits =
    let whole : (n + 1) * (16 ^ more * 16) ≤ limit = rw (← pow-suc 16 more) fits in
    omega (arith, product (n * base + d + 1) (n * 16 + 16) (16 ^ more) (omega (arith, product base 16 n small)))

pub number_fits : (n base d more : ℕ) → (n * base + d + 1) * 16 ^ more ≤ 4294967296 → n * base + d < 4294967296
number_fits n base d more fits =
    omega (arith, product 1 (16 ^ more) (n * base + d + 1) (power_pos more))

pub one_less : (more : ℕ) → (more ≡ 0 → ⊥) → more ≡ suc (more - 1)
one_less zero h = absurd (h refl)
one_less (suc more) h = omega arith

pub digits_more : (hexadecimal : Bool) (more m n : ℕ) (bytes : List ℕ) (c : ℕ) (tail : List ℕ) (d base : ℕ) → more ≡ suc m → bytes ≡ c ∷ tail → (c ≡ 59 → ⊥)
    → Some d ≡ digit_of hexadecimal c → base ≡ base_of hexadecimal → digits_on hexadecimal more n bytes ≡ digits_on hexadecimal m (n * base + d) tail
digits_more hexadecimal more m n bytes c tail d base more_is is other digit base_is = rw (more_is, is, ne_eqb _ _ other, ← digit, base_is) refl
