-- Texts without line feeds, spaces and colons, of which lines are made.
use Rattle.std.proofs.Common.{◌≡◌, ℕ, ◌<◌, ◌^◌, ◌/◌, ◌%◌, Bool, true, false, not, ◌==◌, ◌&&◌, List, [], ◌∷◌, All, decimal, get_or, refl, suc, zero, arith}
use Rattle.std.specs.Char.{is_ascii_digit}
use Rattle.std.specs.List.{list_all}
use Rattle.std.proofs.lemmas.Bool.{and_from, and_parts}
use Rattle.std.proofs.lemmas.Bool.Decides.{nat_tests}
use Rattle.std.proofs.lemmas.Fmt.{digits_decimal}
use Rattle.std.proofs.lemmas.List.Elements.{All-cons, All-nil}
use Rattle.hex.specs.Hex.{encode_lower, encode_with, lower_digits}
use Rattle.small_types.proofs.DecimalLemmas.{own}

-- it is none of the three
abbrev pub is_plain : ℕ → Bool
is_plain b = not (b == 10) && not (b == 32) && not (b == 58)

pub record IsPlain (text : List ℕ) : Type 0 where
  pub each : list_all is_plain text ≡ true

-- no byte is the separator
abbrev pub HasNo : ℕ → List ℕ → Type 0
HasNo separator text = All (λ b. (b == separator) ≡ false) text

digit_plain : (b : ℕ) → is_ascii_digit b ≡ true → is_plain b ≡ true
digit_plain b is = grind (arith, nat_tests)

each_also : (p q : ℕ → Bool) → ((b : ℕ) → p b ≡ true → q b ≡ true) → (xs : List ℕ) → list_all p xs ≡ true → list_all q xs ≡ true
each_also p q also [] all = refl
each_also p q also (x ∷ xs) all = let both = and_parts (p x) (list_all p xs) all in and_from _ _ (also x both.0) (each_also p q also xs both.1)

-- the digits of a number
pub plain_number : (n : ℕ) → n < 2 ^ 64 → IsPlain (decimal n)
plain_number n small =
    record { each = each_also is_ascii_digit is_plain digit_plain (decimal n) (digits_decimal own n small) }

entry_plain : (table : List ℕ) → list_all is_plain table ≡ true → (i : ℕ) → is_plain (get_or table i 0) ≡ true
entry_plain [] all i = refl
entry_plain (x ∷ table) all zero = (and_parts (is_plain x) (list_all is_plain table) all).0
entry_plain (x ∷ table) all (suc i) = entry_plain table (and_parts (is_plain x) (list_all is_plain table) all).1 i

table_plain : list_all is_plain lower_digits ≡ true
table_plain = refl

digits_plain : (bytes : List ℕ) → list_all is_plain (encode_with lower_digits bytes) ≡ true
unfolding encode_with
digits_plain [] = refl
digits_plain (b ∷ bytes) =
    and_from _ _ (entry_plain lower_digits table_plain (b / 16)) (and_from _ _ (entry_plain lower_digits table_plain (b % 16)) (digits_plain bytes))

-- the hexadecimal digits of bytes
pub plain_digits : (bytes : List ℕ) → IsPlain (encode_lower bytes)
plain_digits bytes = record { each = digits_plain bytes }

-- ---- separators

is_other : (separator : ℕ) → ((b : ℕ) → is_plain b ≡ true → (b == separator) ≡ false) → (text : List ℕ) → list_all is_plain text ≡ true → HasNo separator text
is_other separator other [] all = All-nil _
is_other separator other (x ∷ text) all =
    let both = and_parts (is_plain x) (list_all is_plain text) all in
    All-cons (λ b. (b == separator) ≡ false) x text (other x both.0) (is_other separator other text both.1)

no_feed_byte : (b : ℕ) → is_plain b ≡ true → (b == 10) ≡ false
no_feed_byte b is = grind (arith, nat_tests)

no_space_byte : (b : ℕ) → is_plain b ≡ true → (b == 32) ≡ false
no_space_byte b is = grind (arith, nat_tests)

no_colon_byte : (b : ℕ) → is_plain b ≡ true → (b == 58) ≡ false
no_colon_byte b is = grind (arith, nat_tests)

pub no_feed : {text : List ℕ} → IsPlain text → HasNo 10 text
no_feed {text} plain = is_other 10 no_feed_byte text plain.each

pub no_space : {text : List ℕ} → IsPlain text → HasNo 32 text
no_space {text} plain = is_other 32 no_space_byte text plain.each

pub no_colon : {text : List ℕ} → IsPlain text → HasNo 58 text
no_colon {text} plain = is_other 58 no_colon_byte text plain.each
