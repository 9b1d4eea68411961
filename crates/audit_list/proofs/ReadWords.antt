-- What is written for numbers and digests is read again, and nothing else is.
use Rattle.std.proofs.Common.{◌≡◌, ℕ, ◌<◌, ◌≤◌, ◌^◌, ◌*◌, Bool, true, false, cond, nat_lt, nat_le, List, length, decimal, Option, Some, None, Result, Ok, Err, MatchResult, IsErr, is_ok, refl, sym, ap, subst, ◌∙◌, arith}
use Rattle.std.specs.Str.{bytes_eq}
use Rattle.std.specs.Str.Parse.{digits_value}
use Rattle.std.proofs.lemmas.Bool.{and_from, cond-false, cond-true, le-leb, le-ltb, leb-true, lt-ltb, ltb-false}
use Rattle.std.proofs.lemmas.Fmt.{decimal_nonempty, digits_decimal, digits_value-decimal}
use Rattle.std.proofs.lemmas.Slice.Eq.{bytes_eq-Decides}
use Rattle.hex.specs.declared.error.FromHexError.{FromHexError}
use Rattle.hex.specs.Hex.{IsBytes, decode_sized, encode_lower}
use Rattle.hex.proofs.HexLemmas.{decode_of-ok, decode_sized-encode_lower, decode_sized-ok, decode_sized-twice}
use Rattle.small_types.proofs.DecimalLemmas.{own}
use Rattle.small_types.specs.Decimal.{at_most}
use Rattle.digest_list.specs.declared.algorithm.Algorithm.{Algorithm}
use Rattle.digest_list.specs.Algorithm.{size_of}
use Rattle.audit_list.specs.Text.{IsValue}
use Rattle.audit_list.specs.Words.{bytes_of, fitting, index_of, number_of, spelled, written}

-- ---- tests

-- a text is itself
pub same_text : (text : List ℕ) → bytes_eq text text ≡ true
same_text text = (bytes_eq-Decides text text).1 refl

pub is_text : (a b : List ℕ) → bytes_eq a b ≡ true → a ≡ b
is_text a b same = (bytes_eq-Decides a b).0 same

-- something came of a test that gives nothing where it is false
pub came_true : {A : Type 0} (test : Bool) (o : Option A) (x : A) → cond test o None ≡ Some x → (test ≡ true) × (o ≡ Some x)
came_true true o x is = (refl, is)
came_true false o x is = absurd (let no = is in cc)

-- of one that gives nothing where it is true
pub came_false : {A : Type 0} (test : Bool) (o : Option A) (x : A) → cond test None o ≡ Some x → (test ≡ false) × (o ≡ Some x)
came_false true o x is = absurd (let no = is in cc)
came_false false o x is = (refl, is)

-- ---- numbers

pub number_of-decimal : (n : ℕ) → n < 2 ^ 64 → number_of (decimal n) ≡ Some n
unfolding number_of
number_of-decimal n small =
    let digits = digits_decimal own n small in
    let value : digits_value 10 (decimal n) ≡ n = digits_value-decimal own n small in
    let some = lt-ltb 0 (length (decimal n)) (decimal_nonempty n small) in
    let fits : nat_lt 0xffff_ffff_ffff_ffff n ≡ false = le-ltb 0xffff_ffff_ffff_ffff n (omega arith) in
    let is : number_of (decimal n) ≡ fitting (digits_value 10 (decimal n)) (decimal n) = cond-true _ _ _ (and_from _ _ some digits) in
    is ∙ ap (λ (m : ℕ). fitting m (decimal n)) value ∙ cond-false _ _ _ fits ∙ cond-true _ _ _ (same_text (decimal n))

pub number_of-is : (word : List ℕ) (n : ℕ) → number_of word ≡ Some n → (decimal n ≡ word) × (n < 2 ^ 64)
unfolding number_of
number_of-is word n is =
    let value = digits_value 10 word in
    let digits = came_true _ (fitting value word) n is in
    let fits = came_false (nat_lt 0xffff_ffff_ffff_ffff value) (written value word) n digits.1 in
    let wrote = came_true (bytes_eq (decimal value) word) (Some value) n fits.1 in
    let same : value ≡ n = (let it = wrote.1 in cc) in
    let text = is_text (decimal value) word wrote.0 in
    let small = ltb-false 0xffff_ffff_ffff_ffff value fits.0 in
    (ap decimal (sym same) ∙ text, omega arith)

at_most-is : (limit : ℕ) (o : Option ℕ) (n : ℕ) → at_most limit o ≡ Some n → (o ≡ Some n) × (n ≤ limit)
at_most-is limit None n is = absurd (let no = is in cc)
at_most-is limit (Some m) n is =
    let small = came_true (nat_le m limit) (Some m) n is in
    let same : m ≡ n = (let it = small.1 in cc) in
    let low = leb-true m limit small.0 in
    (small.1, omega arith)

pub index_of-decimal : (n : ℕ) → n < 2 ^ 32 → index_of (decimal n) ≡ Some n
index_of-decimal n small =
    ap (at_most 0xffff_ffff) (number_of-decimal n (omega arith)) ∙ cond-true _ _ _ (le-leb n 0xffff_ffff (omega arith))

pub index_of-is : (word : List ℕ) (n : ℕ) → index_of word ≡ Some n → (decimal n ≡ word) × (n < 2 ^ 32)
index_of-is word n is =
    let most = at_most-is 0xffff_ffff (number_of word) n is in
    let small = most.1 in
    ((number_of-is word n most.0).0, omega arith)

-- ---- digests

pub bytes_of-encode_lower : (algorithm : Algorithm) (value : List ℕ) → IsValue algorithm value → bytes_of (size_of algorithm) (encode_lower value) ≡ Some value
unfolding bytes_of
bytes_of-encode_lower algorithm value is =
    ap (spelled (encode_lower value)) (decode_sized-encode_lower value (size_of algorithm) is.0 is.1)
    ∙ cond-true _ _ _ (same_text (encode_lower value))

spelled-is : (word : List ℕ) (size : ℕ) (read : Result (List ℕ) FromHexError) (value : List ℕ) → decode_sized word size ≡ read → spelled word read ≡ Some value
    → (encode_lower value ≡ word) × (length value ≡ size) × IsBytes value
spelled-is word size (Err fault) value made is = absurd (let no = is in cc)
spelled-is word size (Ok bytes) value made is =
    let wrote = came_true (bytes_eq (encode_lower bytes) word) (Some bytes) value is in
    let same : bytes ≡ value = (let it = wrote.1 in cc) in
    let sized : length word ≡ 2 * size = decode_sized-ok word size bytes made in
    let known = decode_of-ok word bytes (sym (decode_sized-twice word size sized) ∙ made) in
    let twice = known.2 in
    (ap encode_lower (sym same) ∙ is_text (encode_lower bytes) word wrote.0, ap length (sym same) ∙ omega arith, rw (← same) known.3)

pub bytes_of-is : (algorithm : Algorithm) (word value : List ℕ) → bytes_of (size_of algorithm) word ≡ Some value → (encode_lower value ≡ word) × IsValue algorithm value
unfolding bytes_of
bytes_of-is algorithm word value is =
    let known = spelled-is word (size_of algorithm) (decode_sized word (size_of algorithm)) value refl is in
    (known.0, (known.1, known.2))

-- ---- digits that are decoded in place

decoded_of : (made : Result (List ℕ) FromHexError) (out : List ℕ) (answer : Result (Unit {0}) FromHexError) (ok : Bool)
    → MatchResult made (λ bytes. (answer ≡ Ok tt) × (out ≡ bytes)) (λ e. answer ≡ Err e) → ok ≡ is_ok answer
    → (ok ≡ true → made ≡ Ok out) × (ok ≡ false → IsErr made)
decoded_of (Ok bytes) out answer ok told is =
    let yes : is_ok answer ≡ true = ap is_ok told.0 in
    (λ good. ap (λ (b : List ℕ). Ok b) (sym told.1), λ bad. absurd (let no : true ≡ false = sym yes ∙ sym is ∙ bad in cc))
decoded_of (Err e) out answer ok told is =
    let not : is_ok answer ≡ false = ap is_ok told in
    (λ good. absurd (let no : true ≡ false = sym good ∙ is ∙ not in cc), λ bad. refl)

none_spelled : (word : List ℕ) (made : Result (List ℕ) FromHexError) → IsErr made → spelled word made ≡ None
none_spelled word (Ok bytes) err = absurd (let no = err in cc)
none_spelled word (Err e) err = refl

-- what decoding answers tells what was decoded
pub decoded : (word out : List ℕ) (room size : ℕ) (answer : Result (Unit {0}) FromHexError) (ok : Bool) → room ≡ size
    → MatchResult (decode_sized word room) (λ bytes. (answer ≡ Ok tt) × (out ≡ bytes)) (λ e. answer ≡ Err e) → ok ≡ is_ok answer
    → (ok ≡ true → decode_sized word size ≡ Ok out) × (ok ≡ false → IsErr (decode_sized word size))
decoded word out room size answer ok same told is =
    subst (λ (n : ℕ). (ok ≡ true → decode_sized word n ≡ Ok out) × (ok ≡ false → IsErr (decode_sized word n))) same
    (decoded_of (decode_sized word room) out answer ok told is)

pub none_decoded : (size : ℕ) (word : List ℕ) → IsErr (decode_sized word size) → bytes_of size word ≡ None
unfolding bytes_of
none_decoded size word err = none_spelled word (decode_sized word size) err

pub other_decoded : (size : ℕ) (word out : List ℕ) → decode_sized word size ≡ Ok out → bytes_eq (encode_lower out) word ≡ false → bytes_of size word ≡ None
unfolding bytes_of
other_decoded size word out made other = ap (spelled word) made ∙ cond-false _ _ _ other

pub one_decoded : (size : ℕ) (word out value : List ℕ) → decode_sized word size ≡ Ok out → bytes_eq (encode_lower out) word ≡ true → value ≡ out → Some value ≡ bytes_of size word
unfolding bytes_of
one_decoded size word out value made wrote is = sym (ap (spelled word) made ∙ cond-true _ _ _ wrote ∙ ap (λ (v : List ℕ). Some v) (sym is))
