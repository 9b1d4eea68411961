-- What digits write.
use Rattle.std.proofs.Common.{◌≡◌, ℕ, ◌^◌, ◌<◌, ◌≤◌, ◌&&◌, true, cond, nat_lt, nat_le, List, length, Option, Some, None, Result, Ok, Err, sym, ap, ◌∙◌, inl, inr, arith, rules}
use Rattle.std.specs.Char.{is_ascii_digit}
use Rattle.std.specs.List.{list_all}
use Rattle.std.specs.Result.{OkIff, result_ok}
use Rattle.std.specs.Str.{IsUtf8}
use Rattle.std.specs.Str.Parse.{digits_value, ParsesUnsigned}
use Rattle.std.proofs.lemmas.Bool.{le-ltb, lt-ltb, cases_lt, cond-true, cond-false}
use Rattle.std.proofs.lemmas.Bool.Decides.{nat_tests}
use Rattle.std.proofs.lemmas.Fmt.{IsAscii-from_digits}
use Rattle.std.proofs.lemmas.Str.{IsUtf8-from_ascii}
use Rattle.std.proofs.lemmas.Str.Parse.{IsNumeralModel, numerals_by_value, parse_digits, digits_value_short}
use Rattle.small_types.specs.Decimal.{decimal_of}

-- each byte is a digit
abbrev pub AreDigits : List ℕ → Type 0
AreDigits bytes = list_all is_ascii_digit bytes ≡ true

pub own : IsNumeralModel AreDigits (digits_value 10)
own = numerals_by_value AreDigits (search rules)

-- digits are text
pub text_of_digits : (bytes : List ℕ) → AreDigits bytes → IsUtf8 bytes
text_of_digits bytes digits = IsUtf8-from_ascii bytes (IsAscii-from_digits bytes (own.to bytes digits))

number_or_none : {E : Type 0} (r : Result ℕ E) (bytes : List ℕ) → 0 < length bytes → OkIff r ((0 < length bytes) × (digits_value 10 bytes < 2 ^ 64)) (digits_value 10 bytes)
    → result_ok r ≡ cond (nat_lt 0xffff_ffff_ffff_ffff (digits_value 10 bytes)) None (Some (digits_value 10 bytes))
number_or_none (Ok n) bytes some is =
    ap (λ (x : ℕ). Some x) is.1 ∙ sym (cond-false _ _ _ (le-ltb 0xffff_ffff_ffff_ffff (digits_value 10 bytes) (let small = is.0.1 in omega arith)))
number_or_none (Err e) bytes some never =
    sym (cond-true _ _ _ (lt-ltb 0xffff_ffff_ffff_ffff (digits_value 10 bytes) (elim (cases_lt (digits_value 10 bytes) (2 ^ 64)) [ inl small ↦ absurd (never (some, small)) | inr large ↦ omega arith ])))

-- what parses digits gives their number, where it fits
pub parsed : {E : Type 0} (r : Result ℕ E) (bytes text : List ℕ) → AreDigits bytes → 0 < length bytes → text ≡ bytes → ParsesUnsigned 64 10 text r
    → result_ok r ≡ cond (nat_lt 0xffff_ffff_ffff_ffff (digits_value 10 bytes)) None (Some (digits_value 10 bytes))
parsed r bytes text digits some is parses = number_or_none r bytes some (parse_digits own 64 bytes r (rw is at parses) digits)

-- at most 19 digits write a number below 2^64
pub short_fits : (bytes : List ℕ) → AreDigits bytes → length bytes ≤ 19 → cond (nat_lt 0xffff_ffff_ffff_ffff (digits_value 10 bytes)) None (Some (digits_value 10 bytes)) ≡ Some (digits_value 10 bytes)
short_fits bytes digits short =
    let small = digits_value_short own bytes 19 digits short in
    cond-false _ _ _ (le-ltb 0xffff_ffff_ffff_ffff (digits_value 10 bytes) (omega arith))

-- 1 to 19 digits are read as their number
pub decimal_of-digits : (bytes : List ℕ) → AreDigits bytes → 0 < length bytes → length bytes ≤ 19 → decimal_of bytes ≡ Some (digits_value 10 bytes)
unfolding decimal_of
decimal_of-digits bytes digits some short =
    let fits : (nat_lt 0 (length bytes) && nat_le (length bytes) 19 && list_all is_ascii_digit bytes) ≡ true = grind (arith, nat_tests, digits) in
    cond-true _ _ _ fits

pub read_short : (bytes : List ℕ) (r : Option ℕ) → r ≡ cond (nat_lt 0xffff_ffff_ffff_ffff (digits_value 10 bytes)) None (Some (digits_value 10 bytes))
    → AreDigits bytes → 0 < length bytes → length bytes ≤ 19 → r ≡ decimal_of bytes
read_short bytes r is digits some short = is ∙ short_fits bytes digits short ∙ sym (decimal_of-digits bytes digits some short)
