-- Numbers that are read are within their limits.
use Rattle.std.proofs.Common.{◌≡◌, ℕ, ◌*◌, ◌≤◌, Bool, true, false, List, length, Option, Some, None, Ok, refl, ap, arith}
use Rattle.std.specs.Prelude.{◌&&◌, nat_le, if◌then◌else◌}
use Rattle.std.specs.Char.{is_ascii_digit}
use Rattle.std.specs.List.{list_all}
use Rattle.std.specs.Str.Parse.{digits_value}
use Rattle.std.proofs.Math.Nat.{mul-le-mul}
use Rattle.std.proofs.lemmas.Bool.{and_parts}
use Rattle.std.proofs.lemmas.Bool.Decides.{nat_tests}
use Rattle.manifest_parts.specs.Values.{valid, number_in, number_of}

by_test : (t : Bool) (x limit n : ℕ) → (t ≡ true → x ≤ limit) → (if t then Some x else None) ≡ Some n → n ≤ limit
by_test true x limit n within is = let same : x ≡ n = cc in let h = within refl in omega arith
by_test false x limit n within is = absurd cc

below : (x limit : ℕ) → nat_le x limit ≡ true → x ≤ limit
below x limit h = grind (arith, nat_tests)

number_in_within : (digits limit : ℕ) (text : List ℕ) (n : ℕ) → number_in digits limit text ≡ Some n → n ≤ limit
unfolding number_in
number_in_within digits limit text n is =
    let x = digits_value 10 text in
    let others = nat_le 1 (length text) && nat_le (length text) digits && list_all is_ascii_digit text in
    by_test (others && nat_le x limit) x limit n (λ t. below x limit (and_parts others (nat_le x limit) t).1) is

valid_some : (what : List ℕ) (o : Option ℕ) (n : ℕ) → valid what o ≡ Ok n → o ≡ Some n
valid_some what None n is = absurd cc
valid_some what (Some x) n is = let same : x ≡ n = cc in ap (λ (m : ℕ). Some m) same

pub number_of_within : (digits limit : ℕ) (what text : List ℕ) (n : ℕ) → number_of digits limit what text ≡ Ok n → n ≤ limit
number_of_within digits limit what text n is = number_in_within digits limit text n (valid_some what (number_in digits limit text) n is)

-- an age of nine digits in weeks
pub age_fits : (age unit : ℕ) → age ≤ 999999999 → unit ≤ 604800 → age * unit ≤ 604799999395200
age_fits age unit first second = let product : age * unit ≤ 999999999 * 604800 = mul-le-mul first second in product
