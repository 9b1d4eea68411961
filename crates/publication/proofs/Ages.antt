-- Ages that words spell can be written.
use Rattle.std.proofs.Common.{◌≡◌, ◌∙◌, ℕ, ◌*◌, ◌/◌, ◌%◌, ◌≤◌, Bool, true, false, List, length, Option, Some, None, IfSome, refl, sym, subst, arith}
use Rattle.std.specs.Prelude.{◌==◌, ◌&&◌, nat_le, nat_lt, if◌then◌else◌}
use Rattle.std.specs.Char.{is_ascii_digit}
use Rattle.std.specs.List.{list_all}
use Rattle.std.specs.Str.Parse.{digits_value}
use Rattle.std.proofs.Common.{eq-eqb, eqb-true}
use Rattle.std.proofs.lemmas.Bool.{and_parts}
use Rattle.std.proofs.lemmas.Str.Parse.{digits_value_short}
use Rattle.small_types.specs.Decimal.{decimal_of}
use Rattle.small_types.proofs.DecimalLemmas.{AreDigits, own}
use Rattle.manifests.specs.Ages.{largest_unit, seconds_in}
use Rattle.manifests.specs.Facts.{IsAge}
use Rattle.manifests.specs.declared.ages.AgeUnit.{AgeUnit}
use Rattle.manifests.specs.declared.ages.AgeUnit.TheVariants.{Hours, Days, Weeks}

few_where : (t : Bool) (digits : List ℕ) → (t ≡ true → AreDigits digits) → length digits ≤ 9 → IfSome (if t then Some (digits_value 10 digits) else None) (λ n. n ≤ 999999999)
few_where true digits are short = let below = digits_value_short own digits 9 (are refl) short in omega arith
few_where false digits are short = tt

-- nine digits are at most 999,999,999
pub few_digits : (digits : List ℕ) (read : Option ℕ) → length digits ≤ 9 → read ≡ decimal_of digits → IfSome read (λ n. n ≤ 999999999)
unfolding decimal_of
few_digits digits read short is =
    let few = few_where _ digits (λ test. (and_parts (nat_lt 0 (length digits) && nat_le (length digits) 19) (list_all is_ascii_digit digits) test).1) short in
    subst (λ (o : Option ℕ). IfSome o (λ n. n ≤ 999999999)) (sym is) few

-- ---- in the largest unit an age has no more units than in its own

abbrev unit_by : Bool → Bool → Bool → AgeUnit
unit_by nothing weeks days = if nothing then Days else if weeks then Weeks else if days then Days else Hours

hours_few : (age seconds : ℕ) (nothing weeks days : Bool) → seconds ≡ age * 3600 → seconds / seconds_in (unit_by nothing weeks days) ≤ age
hours_few age seconds true weeks days is = omega arith
hours_few age seconds false true days is = omega arith
hours_few age seconds false false true is = omega arith
hours_few age seconds false false false is = omega arith

days_few : (age seconds : ℕ) (nothing weeks days : Bool) → (seconds % 86400 == 0) ≡ days → seconds ≡ age * 86400 → seconds / seconds_in (unit_by nothing weeks days) ≤ age
days_few age seconds true weeks days test is = omega arith
days_few age seconds false true days test is = omega arith
days_few age seconds false false true test is = omega arith
days_few age seconds false false false test is =
    let whole : seconds % 86400 ≡ 0 = omega arith in
    let clash : true ≡ false = sym (eq-eqb (seconds % 86400) 0 whole) ∙ test in
    absurd cc

weeks_few : (age seconds : ℕ) (nothing weeks days : Bool) → (seconds == 0) ≡ nothing → (seconds % 604800 == 0) ≡ weeks → seconds ≡ age * 604800
    → seconds / seconds_in (unit_by nothing weeks days) ≤ age
weeks_few age seconds true weeks days test tested is = let none : seconds ≡ 0 = eqb-true seconds 0 test in omega arith
weeks_few age seconds false true days test tested is = omega arith
weeks_few age seconds false false days test tested is =
    let whole : seconds % 604800 ≡ 0 = omega arith in
    let clash : true ≡ false = sym (eq-eqb (seconds % 604800) 0 whole) ∙ tested in
    absurd cc

age_of_unit : (age : ℕ) (unit : AgeUnit) → age ≤ 999999999 → IsAge (age * seconds_in unit)
unfolding largest_unit
age_of_unit age Hours few =
    let seconds = age * 3600 in
    let most = hours_few age seconds (seconds == 0) (seconds % 604800 == 0) (seconds % 86400 == 0) refl in
    record { whole = omega arith; few = omega arith }
age_of_unit age Days few =
    let seconds = age * 86400 in
    let most = days_few age seconds (seconds == 0) (seconds % 604800 == 0) (seconds % 86400 == 0) refl refl in
    record { whole = omega arith; few = omega arith }
age_of_unit age Weeks few =
    let seconds = age * 604800 in
    let most = weeks_few age seconds (seconds == 0) (seconds % 604800 == 0) (seconds % 86400 == 0) refl refl refl in
    record { whole = omega arith; few = omega arith }

pub is_age : (age : ℕ) (unit : AgeUnit) (seconds : ℕ) → seconds ≡ seconds_in unit → age ≤ 999999999 → IsAge (age * seconds)
is_age age unit seconds is few = subst (λ (n : ℕ). IsAge (age * n)) (sym is) (age_of_unit age unit few)
