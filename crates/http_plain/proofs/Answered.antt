-- An answer with a file, read back.
use Rattle.std.proofs.Common.{◌≡◌, ◌≤◌, ◌<◌, ◌+◌, ◌&&◌, ◌^◌, not, ℕ, Bool, true, false, cond, List, [], ◌∷◌, ◌++◌, length, reverse, eqb, ltb, leb, nat_eq, codes, All, Some, None, Ok, refl, ap, sym, subst, ◌∙◌, arith, append_assoc, length-append}
use Rattle.std.specs.Char.{is_ascii_digit, digit_value}
use Rattle.std.specs.Fmt.{decimal}
use Rattle.std.specs.List.{ends_with, flat_map, list_all}
use Rattle.std.specs.Str.Parse.{AllDigits, digits_value}
use Rattle.std.proofs.lemmas.Fmt.{decimal_is_IsNumeral_wide, length-decimal-le_wide, decimal-digits_value}
use Rattle.std.proofs.lemmas.List.{append-nil, reverse-append}
use Rattle.std.proofs.lemmas.List.Elements.{All-cons, All-nil}
use Rattle.std.proofs.lemmas.List.Folds.{list_all-append}
use Rattle.std.proofs.lemmas.List.Sums.{AllPass-from_list_all}
use Rattle.std.proofs.lemmas.Bool.Decides.{nat_tests}
use Rattle.std.proofs.Math.Seq.{take-length, drop-length}
use Rattle.httparse.specs.Ascii.{crlf_bytes}
use Rattle.httparse.specs.Grammar.{Field, IsField, crlf, is_token_byte, is_value_byte, is_ows, skip_ows, trim_ows, print_field, ResponseHead, IsResponseHead, print_response}
use Rattle.httparse.proofs.TrimLemmas.{trim_ows_space}
use Rattle.http_plain.specs.declared.lengths.Named.TheVariants.{Nothing, Length}
use Rattle.http_plain.specs.Exchange.{Gives, GivesBy, IsResponse, given, is_encoded, joined, length_in, named_by}
use Rattle.http_plain.specs.Fields.{pairs_of, values_of}
use Rattle.http_plain.specs.Head.{head_end, Whole, front_of, behind_head}
use Rattle.http_plain.specs.declared.head.TheConstants.{HEAD_LIMIT}
use Rattle.http_plain.specs.Served.{answer_head, file_answer, head_text, type_line, type_of}
use Rattle.small_types.specs.Decimal.{decimal_of}
use Rattle.small_types.proofs.DecimalLemmas.{AreDigits, own, decimal_of-digits}
use Rattle.http_plain.proofs.Fronts.{behind_longer, ended_longer}
use Rattle.http_plain.proofs.Lines.{is_clean, lines_text, head_ends, head_length, both}

-- ---- tests

pub and_true : {s t : Bool} → s ≡ true → t ≡ true → (s && t) ≡ true
and_true {s} {t} p q = ap (λ b. b && t) p ∙ q

ltb_true : {m n : ℕ} → m < n → ltb m n ≡ true
ltb_true {m} {n} h = grind (arith, nat_tests)

leb_true : {m n : ℕ} → m ≤ n → leb m n ≡ true
leb_true {m} {n} h = grind (arith, nat_tests)

one_of : (P : List ℕ → Type 0) (t u : Bool) (a b c : List ℕ) → P a → P b → P c → P (cond t a (cond u b c))
one_of P true u a b c x y z = x
one_of P false true a b c x y z = y
one_of P false false a b c x y z = z

-- ---- fields

abbrev pub field : List ℕ → List ℕ → Field
field name value = record { name = name; raw = 32 ∷ value; end = crlf }

abbrev pub are_values : List ℕ → Bool
are_values value = list_all is_value_byte value

pub is_field : (name value : List ℕ) → 0 < length name → list_all is_token_byte name ≡ true → are_values value ≡ true → IsField (field name value)
is_field name value some token values = record {
  name = (some, AllPass-from_list_all is_token_byte name token);
  raw = AllPass-from_list_all is_value_byte (32 ∷ value) values;
}

-- ---- digits

digit_facts : (b : ℕ) → digit_value b < 10 → is_ascii_digit b ≡ true
digit_facts b digit = grind (arith, nat_tests)

digit_parts : (b : ℕ) → is_ascii_digit b ≡ true → (not (eqb 13 b) ≡ true) × (is_value_byte b ≡ true) × (is_ows b ≡ false)
digit_parts b digit = (grind (arith, nat_tests), grind (arith, nat_tests), grind (arith, nat_tests))

digits_pass : (ds : List ℕ) → AllDigits 10 ds → AreDigits ds
digits_pass [] digits = refl
digits_pass (d ∷ ds) digits = and_true (digit_facts d digits.0) (digits_pass ds digits.1)

pub digits_clean : (ds : List ℕ) → AreDigits ds → is_clean ds ≡ true
digits_clean [] digits = refl
digits_clean (d ∷ ds) digits =
    let parts = both (is_ascii_digit d) (list_all is_ascii_digit ds) digits in
    and_true (digit_parts d parts.0).0 (digits_clean ds parts.1)

pub digits_values : (ds : List ℕ) → AreDigits ds → are_values ds ≡ true
digits_values [] digits = refl
digits_values (d ∷ ds) digits =
    let parts = both (is_ascii_digit d) (list_all is_ascii_digit ds) digits in
    and_true (digit_parts d parts.0).1 (digits_values ds parts.1)

pub decimal_digits : (n : ℕ) → n < 10 ^ 64 → AreDigits (decimal n)
decimal_digits n small = digits_pass (decimal n) (decimal_is_IsNumeral_wide n small).0.1

-- no white space at the front
bare : (ds : List ℕ) → AreDigits ds → skip_ows ds ≡ ds
bare [] digits = refl
bare (d ∷ ds) digits =
    let parts = both (is_ascii_digit d) (list_all is_ascii_digit ds) digits in
    ap (λ t. cond t (skip_ows ds) (d ∷ ds)) (digit_parts d parts.0).2

digits_back : (ds : List ℕ) → AreDigits ds → AreDigits (reverse ds)
digits_back [] digits = refl
digits_back (d ∷ ds) digits =
    let parts = both (is_ascii_digit d) (list_all is_ascii_digit ds) digits in
    ap (list_all is_ascii_digit) (reverse-append (d ∷ []) ds)
    ∙ list_all-append is_ascii_digit (reverse ds) (d ∷ [])
    ∙ and_true (digits_back ds parts.1) (and_true parts.0 refl)

digits_trimmed : (ds : List ℕ) → AreDigits ds → trim_ows (32 ∷ ds) ≡ ds
digits_trimmed ds digits = trim_ows_space ds (bare ds digits) (bare (reverse ds) (digits_back ds digits))

decimal_of_decimal : (n : ℕ) → n < 10 ^ 19 → decimal_of (decimal n) ≡ Some n
decimal_of_decimal n small =
    let wide : n < 10 ^ 64 = omega (arith, small) in
    let numeral = decimal_is_IsNumeral_wide n wide in
    decimal_of-digits (decimal n) (decimal_digits n wide) numeral.0.0 (length-decimal-le_wide 19 n (omega arith) small wide)
    ∙ ap Some numeral.1

-- ---- the head

abbrev pub answer_fields : List ℕ → ℕ → List Field
answer_fields type n =
    field (codes "Content-Type") type ∷ field (codes "Content-Length") (decimal n) ∷ field (codes "Connection") (codes "close") ∷ []

abbrev pub ok_head : List ℕ → ℕ → ResponseHead
ok_head type n = record {
  blank = [];
  minor = 1;
  digits = codes "200";
  reason = Some (codes "OK");
  line_end = crlf;
  fields = answer_fields type n;
  last = crlf;
}

fields_are : (type : List ℕ) (n : ℕ) → are_values type ≡ true → are_values (decimal n) ≡ true → All IsField (answer_fields type n)
unfolding is_token_byte
fields_are type n types digits =
    let second : Field = field (codes "Content-Length") (decimal n) in
    let third : Field = field (codes "Connection") (codes "close") in
    All-cons IsField (field (codes "Content-Type") type) (second ∷ third ∷ []) (is_field (codes "Content-Type") type (omega arith) refl types)
    (All-cons IsField second (third ∷ []) (is_field (codes "Content-Length") (decimal n) (omega arith) refl digits)
    (All-cons IsField third [] (is_field (codes "Connection") (codes "close") (omega arith) refl refl)
    (All-nil IsField)))

is_ok_head : (type : List ℕ) (n : ℕ) → are_values type ≡ true → are_values (decimal n) ≡ true → IsResponseHead (ok_head type n)
is_ok_head type n types digits = record {
  minor = omega arith;
  digits = (refl, AllPass-from_list_all is_ascii_digit (codes "200") refl);
  reason = AllPass-from_list_all is_value_byte (codes "OK") refl;
  fields = fields_are type n types digits;
}

pub decimal_200 : decimal 200 ≡ codes "200"
decimal_200 = decimal-digits_value own (codes "200") refl (omega arith) (λ e. cc) (omega arith)

abbrev pub ok_lines : List ℕ → ℕ → List (List ℕ)
ok_lines type n = (codes "Content-Type: " ++ type) ∷ (codes "Content-Length: " ++ decimal n) ∷ codes "Connection: close" ∷ []

abbrev pub ok_text : List ℕ → ℕ → List ℕ
ok_text type n = head_text (codes "HTTP/1.1 200 OK" ∷ ok_lines type n)

text_is : (name : List ℕ) (n : ℕ) → answer_head 200 (codes "OK") (type_line name ∷ []) n ≡ ok_text (type_of name) n
unfolding answer_head
text_is name n = ap (λ code. head_text ((codes "HTTP/1.1 " ++ code ++ codes " " ++ codes "OK") ∷ ok_lines (type_of name) n)) decimal_200

printed_is : (type : List ℕ) (n : ℕ) → print_response (ok_head type n) ≡ ok_text type n
unfolding print_response
printed_is type n = sym (append_assoc (codes "HTTP/1.1 200 OK\r\n") (flat_map print_field (answer_fields type n)) crlf_bytes)

-- ---- what it gives

pairs_values : (type : List ℕ) (n : ℕ) → values_of (codes "content-length") (pairs_of (answer_fields type n)) ≡ trim_ows (32 ∷ decimal n) ∷ []
unfolding values_of
pairs_values type n = refl

not_encoded : (type : List ℕ) (n : ℕ) → is_encoded (pairs_of (answer_fields type n)) ≡ false
unfolding is_encoded values_of
not_encoded type n = refl

named_is : (type : List ℕ) (n : ℕ) → n < 10 ^ 19 → named_by (values_of (codes "content-length") (pairs_of (answer_fields type n))) ≡ Length n
named_is type n small =
    ap named_by (pairs_values type n)
    ∙ ap (λ value. named_by (value ∷ [])) (digits_trimmed (decimal n) (decimal_digits n (omega (arith, small))))
    ∙ ap (λ m. joined m Nothing) (decimal_of_decimal n small)

length_is : (type : List ℕ) (n : ℕ) → n < 10 ^ 19 → length_in (ok_head type n) ≡ Ok n
unfolding length_in
length_is type n small =
    ap (λ encoded. given 200 encoded (named_by (values_of (codes "content-length") (pairs_of (answer_fields type n))))) (not_encoded type n)
    ∙ ap (given 200 false) (named_is type n small)

-- ---- the answer

types : (name : List ℕ) → (are_values (type_of name) ≡ true) × (is_clean (type_of name) ≡ true) × (length (type_of name) ≤ 32)
unfolding type_of
types name =
    one_of (λ type. (are_values type ≡ true) × (is_clean type ≡ true) × (length type ≤ 32))
    (ends_with nat_eq name (codes ".application")) (ends_with nat_eq name (codes ".manifest"))
    (codes "application/x-ms-application") (codes "application/x-ms-manifest") (codes "application/octet-stream")
    (refl, refl, omega arith) (refl, refl, omega arith) (refl, refl, omega arith)

line_length : (name value rest : List ℕ) → length (((name ++ value) ++ crlf_bytes) ++ rest) ≡ length name + length value + 2 + length rest
line_length name value rest =
    omega (arith, length-append ((name ++ value) ++ crlf_bytes) rest, length-append (name ++ value) crlf_bytes, length-append name value)

text_short : (type : List ℕ) (n : ℕ) → length type ≤ 32 → length (decimal n) ≤ 19 → length (ok_text type n) ≤ HEAD_LIMIT
text_short type n few short =
    let close : List ℕ = lines_text (codes "Connection: close" ∷ []) in
    let behind : List ℕ = lines_text ((codes "Content-Length: " ++ decimal n) ∷ codes "Connection: close" ∷ []) in
    let last : length close ≡ 19 = refl in
    let second = line_length (codes "Content-Length: ") (decimal n) close in
    let third = line_length (codes "Content-Type: ") type behind in
    let whole = head_length (codes "HTTP/1.1 200 OK") (lines_text (ok_lines type n)) in
    omega (arith, second, third, whole)

text_reads : (type : List ℕ) (n : ℕ) → are_values type ≡ true → n < 10 ^ 19 → IsResponse (ok_text type n) (ok_head type n)
text_reads type n types small = record {
  reads = (
    is_ok_head type n types (digits_values (decimal n) (decimal_digits n (omega (arith, small)))),
    sym (printed_is type n) ∙ sym (append-nil (print_response (ok_head type n))),
  );
  few = omega arith;
}

text_ends : (type rest : List ℕ) (n : ℕ) → is_clean type ≡ true → n < 10 ^ 19 → head_end (ok_text type n ++ rest) ≡ Some (length (ok_text type n))
text_ends type rest n clean small =
    head_ends (codes "HTTP/1.1 200 OK") (ok_lines type n) rest refl
    (and_true clean (and_true (digits_clean (decimal n) (decimal_digits n (omega (arith, small)))) refl))

text_gives : (type bytes : List ℕ) (n : ℕ) → are_values type ≡ true → is_clean type ≡ true → length type ≤ 32 → n < 10 ^ 19
    → Gives (ok_text type n ++ bytes) (Ok n) × (behind_head (ok_text type n ++ bytes) ≡ bytes)
text_gives type bytes n types clean few small =
    let text : List ℕ = ok_text type n in
    let short : length text ≤ HEAD_LIMIT = text_short type n few (length-decimal-le_wide 19 n (omega arith) small (omega (arith, small))) in
    let end : head_end text ≡ Some (length text) = ap head_end (sym (append-nil text)) ∙ text_ends type [] n clean small in
    let front : front_of (text ++ bytes) ≡ Whole text = ended_longer text bytes (length text) short end ∙ ap Whole (take-length text) in (
      subst (λ f. GivesBy f (Ok n)) (sym front) (Some (ok_head type n), text_reads type n types small, sym (length_is type n small)),
      behind_longer text bytes (length text) end ∙ ap (λ l. l ++ bytes) (drop-length text),
    )

-- an answer with a file gives its length, and its bytes stand behind the head
pub file_answer_gives : (name bytes : List ℕ) → length bytes < 10 ^ 19
    → Gives (file_answer name true bytes) (Ok (length bytes)) × (behind_head (file_answer name true bytes) ≡ bytes)
file_answer_gives name bytes small =
    let facts = types name in
    let same : file_answer name true bytes ≡ ok_text (type_of name) (length bytes) ++ bytes = ap (λ head. head ++ bytes) (text_is name (length bytes)) in
    subst (λ answer. Gives answer (Ok (length bytes)) × (behind_head answer ≡ bytes)) (sym same)
    (text_gives (type_of name) bytes (length bytes) facts.0 facts.1 facts.2 small)
