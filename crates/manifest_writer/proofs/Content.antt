-- What is written of numbers, versions, digests and names has only bytes that a manifest may hold.
use Rattle.std.proofs.Common.{◌≡◌, ℕ, zero, suc, ◌+◌, ◌*◌, ◌/◌, ◌%◌, ◌^◌, ◌<◌, ◌≤◌, Bool, true, false, List, [], ◌∷◌, ◌++◌, length, map, refl, ap₂, ◌∙◌, arith, decimal}
use Rattle.std.specs.Prelude.{◌&&◌, nat_le, nat_lt, ◌==◌, slice_index, replicate, if◌then◌else◌}
use Rattle.std.specs.Char.{is_ascii_digit}
use Rattle.std.specs.List.{list_all}
use Rattle.std.specs.Str.{is_utf8}
use Rattle.std.proofs.lemmas.Bool.{and_parts}
use Rattle.std.proofs.lemmas.Bool.Decides.{nat_tests}
use Rattle.std.proofs.lemmas.List.Folds.{list_all-append}
use Rattle.std.proofs.lemmas.Fmt.{digits_decimal}
use Rattle.base64.specs.Engines.{standard}
use Rattle.base64.specs.GeneralPurpose.{encode_of, engine_symbols, IsBytes}
use Rattle.base64.specs.Rfc4648.{encode_symbols, padding_len}
use Rattle.small_types.specs.declared.limits.TheConstants.{FILE_SIZE_LIMIT, NAME_LIMIT}
use Rattle.small_types.specs.Name.{name_parts, is_name, is_name_byte, is_name_part, IsName}
use Rattle.identity.specs.declared.version.Version.{Version}
use Rattle.identity.specs.Version.{IsVersion, version_text}
use Rattle.small_types.proofs.DecimalLemmas.{own}
use Rattle.manifest_tree.specs.Lexis.{allowed}
use Rattle.manifest_tree.specs.WrittenText.{is_content}
use Rattle.manifests.specs.Applications.{size_limit}
use Rattle.manifest_writer.specs.Applications.{backslashed}

-- ---- lists

pub both : (a b : Bool) → a ≡ true → b ≡ true → (a && b) ≡ true
both a b p q = ap₂ (λ (x y : Bool). x && y) p q

all_mapped : (p q : ℕ → Bool) (f : ℕ → ℕ) → ((c : ℕ) → p c ≡ true → q (f c) ≡ true) → (bytes : List ℕ) → list_all p bytes ≡ true → list_all q (map f bytes) ≡ true
all_mapped p q f step [] h = refl
all_mapped p q f step (c ∷ cs) h = let e = and_parts (p c) (list_all p cs) h in both (q (f c)) (list_all q (map f cs)) (step c e.0) (all_mapped p q f step cs e.1)

all_by : (p q : ℕ → Bool) → ((c : ℕ) → p c ≡ true → q c ≡ true) → (bytes : List ℕ) → list_all p bytes ≡ true → list_all q bytes ≡ true
all_by p q step [] h = refl
all_by p q step (c ∷ cs) h = let e = and_parts (p c) (list_all p cs) h in both (q c) (list_all q cs) (step c e.0) (all_by p q step cs e.1)

joined : (xs ys : List ℕ) → is_content xs ≡ true → is_content ys ≡ true → is_content (xs ++ ys) ≡ true
joined xs ys p q = list_all-append allowed xs ys ∙ both (is_content xs) (is_content ys) p q

repeated : (n c : ℕ) → allowed c ≡ true → is_content (replicate n c) ≡ true
repeated zero c h = refl
repeated (suc n) c h = both (allowed c) (is_content (replicate n c)) h (repeated n c h)

at_place : (p : ℕ → Bool) (xs : List ℕ) (i : ℕ) → list_all p xs ≡ true → i < length xs → p (slice_index xs i) ≡ true
at_place p [] i h lt = absurd (omega arith)
at_place p (x ∷ xs) zero h lt = (and_parts (p x) (list_all p xs) h).0
at_place p (x ∷ xs) (suc i) h lt = at_place p xs i (and_parts (p x) (list_all p xs) h).1 (omega arith)

-- ---- numbers and versions

digit_allowed : (c : ℕ) → is_ascii_digit c ≡ true → allowed c ≡ true
unfolding allowed
digit_allowed c h = grind (arith, nat_tests)

pub decimal_content : (n : ℕ) → n < 2 ^ 64 → is_content (decimal n) ≡ true
decimal_content n small = all_by is_ascii_digit allowed digit_allowed (decimal n) (digits_decimal own n small)

dotted : (xs ys : List ℕ) → is_content xs ≡ true → is_content ys ≡ true → is_content (xs ++ (46 ∷ ys)) ≡ true
unfolding allowed
dotted xs ys p q = joined xs (46 ∷ ys) p q

pub version_content : (v : Version) → IsVersion v → is_content (version_text v) ≡ true
unfolding version_text
version_content v fits =
    let a = decimal_content v.a (omega arith) in
    let b = decimal_content v.b (omega arith) in
    let c = decimal_content v.c (omega arith) in
    let d = decimal_content v.d (omega arith) in
    dotted (decimal v.a) _ a (dotted (decimal v.b) _ b (dotted (decimal v.c) (decimal v.d) c d))

-- ---- digests

abbrev symbols : List ℕ
symbols = engine_symbols standard

symbols_allowed : is_content symbols ≡ true
unfolding allowed
symbols_allowed = refl

symbol : (i : ℕ) → i < 64 → allowed (slice_index symbols i) ≡ true
symbol i small = at_place allowed symbols i symbols_allowed small

tail_bytes : (b : ℕ) (bs : List ℕ) → IsBytes (b ∷ bs) → IsBytes bs
tail_bytes b bs are = λ i. are (suc i)

symbols_content : (m : List ℕ) → IsBytes m → is_content (encode_symbols symbols m) ≡ true
unfolding encode_symbols
symbols_content [] are = refl
symbols_content (a ∷ []) are =
    let x : a < 256 = are 0 in
    both _ _ (symbol (a / 4) (omega arith)) (both _ true (symbol (a % 4 * 16) (omega arith)) refl)
symbols_content (a ∷ b ∷ []) are =
    let x : a < 256 = are 0 in
    let y : b < 256 = are 1 in
    both _ _ (symbol (a / 4) (omega arith)) (both _ _ (symbol (a % 4 * 16 + b / 16) (omega arith)) (both _ true (symbol (b % 16 * 4) (omega arith)) refl))
symbols_content (a ∷ b ∷ c ∷ rest) are =
    let x : a < 256 = are 0 in
    let y : b < 256 = are 1 in
    let z : c < 256 = are 2 in
    both _ _ (symbol (a / 4) (omega arith))
    (both _ _ (symbol (a % 4 * 16 + b / 16) (omega arith))
    (both _ _ (symbol (b % 16 * 4 + c / 64) (omega arith))
    (both _ _ (symbol (c % 64) (omega arith)) (symbols_content rest (tail_bytes c rest (tail_bytes b (c ∷ rest) (tail_bytes a (b ∷ c ∷ rest) are)))))))

equals_allowed : allowed 61 ≡ true
unfolding allowed
equals_allowed = refl

pub base64_content : (m : List ℕ) → IsBytes m → is_content (encode_of standard m) ≡ true
base64_content m are = joined (encode_symbols symbols m) (replicate (padding_len (length m)) 61) (symbols_content m are) (repeated (padding_len (length m)) 61 equals_allowed)

-- ---- sizes

pub size_limit_most : (is_local : Bool) → size_limit is_local ≤ FILE_SIZE_LIMIT
size_limit_most true = omega arith
size_limit_most false = omega arith

-- ---- names

abbrev pub backslash : ℕ → ℕ
backslash b = if b == 47 then 92 else b

name_byte_allowed : (b : ℕ) → is_name_byte b ≡ true → allowed (backslash b) ≡ true
unfolding allowed
name_byte_allowed b h = grind (arith, nat_tests)

pub name_bytes : (name : List ℕ) → IsName name → list_all is_name_byte name ≡ true
unfolding is_name
name_bytes name is =
    let sized = nat_lt 0 (length name) && nat_le (length name) NAME_LIMIT in
    let bytes = list_all is_name_byte name in
    let parted = list_all is_name_part (name_parts name) in
    let first = and_parts (sized && bytes && parted) (is_utf8 name) is in
    let second = and_parts (sized && bytes) parted first.0 in
    (and_parts sized bytes second.0).1

pub name_content : (name : List ℕ) → IsName name → is_content (backslashed name) ≡ true
unfolding backslashed
name_content name is = all_mapped is_name_byte allowed backslash name_byte_allowed name (name_bytes name is)
