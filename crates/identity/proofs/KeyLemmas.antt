-- What is written of a key is read again.
use Rattle.std.proofs.Common.{◌≡◌, ◌≢◌, ℕ, ◌<◌, ◌≤◌, ◌+◌, ◌/◌, Bool, true, false, not, ◌==◌, ◌||◌, ◌&&◌, nat_lt, nat_le, List, [], ◌∷◌, ◌++◌, length, Result, Ok, Err, IfOk, All, IsUtf8, refl, sym, ap, ap₂, subst, ◌∙◌, inl, inr, arith}
use Rattle.std.specs.Str.{is_utf8}
use Rattle.std.proofs.lemmas.Bool.{agree_below, agree_below_at, and_parts, cases_Bool, cases_lt, ne_eqb, lt-ltb, le-leb, cond_both, cond-true, cond-false, ltb-true, leb-true}
use Rattle.std.proofs.lemmas.Bool.Decides.{nat_tests}
use Rattle.std.proofs.lemmas.List.Elements.{All-nil, All-cons, All-append, All-same}
use Rattle.std.proofs.lemmas.Str.{IsUtf8-from_is_utf8, is_utf8-from_IsUtf8}
use lib.Utf8.{scalar, scalars, next, encode, encodes, scalar_cases}
use Rattle.percent_encoding.specs.declared.ascii_set.AsciiSet.{AsciiSet}
use Rattle.percent_encoding.specs.AsciiSet.{contains, should_percent_encode}
use Rattle.percent_encoding.specs.Percent.{percent_encode, percent_decode}
use Rattle.percent_encoding.proofs.PercentLemmas.{IsByte, IsEscapeByte, All-percent_encode, round_trip}
use Rattle.small_types.specs.declared.limits.TheConstants.{IDENTITY_PART_LIMIT, NAME_LIMIT}
use Rattle.identity.specs.declared.key.Key.{Key}
use Rattle.identity.specs.declared.key.KeyFault.{KeyFault}
use Rattle.identity.specs.declared.key.KeyFault.TheVariants.{PartCount, BadPart}
use Rattle.identity.specs.declared.escapes.TheConstants.{PART_ESCAPES, WORD_ESCAPES}
use Rattle.small_types.specs.Cuts.{parts_between}
use Rattle.small_types.specs.Outcome.{◌>>=◌}
use Rattle.identity.specs.Key.{comma, is_unreserved, escaped, word_text, part_text, key_text, IsPart, IsKey, is_part, part_of, key_of_parts, key_of, Gives}
use Rattle.identity.proofs.PartsLemmas.{HasNo, four_joined}

-- ---- the sets

-- a set that escapes all but what is kept: below 128 by looking at each byte
abbrev Escapes : AsciiSet → (ℕ → Bool) → Type 0
Escapes set is_kept = (b : ℕ) → should_percent_encode set b ≡ not (is_kept b)

part_bytes : agree_below (contains PART_ESCAPES) (λ b. not (is_unreserved b)) 128 ≡ true
part_bytes = refl

word_bytes : agree_below (contains WORD_ESCAPES) (λ b. not (is_unreserved b || b == 47)) 128 ≡ true
word_bytes = refl

above : (b : ℕ) → 128 ≤ b → (is_unreserved b || b == 47) ≡ false
above b high = grind (arith, nat_tests)

above_part : (b : ℕ) → 128 ≤ b → is_unreserved b ≡ false
above_part b high = grind (arith, nat_tests)

escapes_by : (set : AsciiSet) (is_kept : ℕ → Bool) → agree_below (contains set) (λ b. not (is_kept b)) 128 ≡ true → ((b : ℕ) → 128 ≤ b → is_kept b ≡ false) → Escapes set is_kept
unfolding should_percent_encode
escapes_by set is_kept low high b = elim (cases_lt b 128) [
  | inl small ↦ rw (lt-ltb b 128 small) (agree_below_at (contains set) (λ x. not (is_kept x)) 128 b low small)
  | inr big ↦ rw high (grind (arith, nat_tests))
]

pub part_escapes : Escapes PART_ESCAPES is_unreserved
part_escapes = escapes_by PART_ESCAPES is_unreserved part_bytes above_part

pub word_escapes : Escapes WORD_ESCAPES (λ b. is_unreserved b || b == 47)
word_escapes = escapes_by WORD_ESCAPES (λ b. is_unreserved b || b == 47) word_bytes above

-- what escapes all but what is kept writes the text
encoded : (set : AsciiSet) (is_kept : ℕ → Bool) → Escapes set is_kept → (bytes : List ℕ) → percent_encode set bytes ≡ escaped is_kept bytes
unfolding percent_encode
encoded set is_kept same [] = refl
encoded set is_kept same (x ∷ xs) =
    let rest : percent_encode set xs ≡ escaped is_kept xs = encoded set is_kept same xs in
    ap₂ (λ (front back : List ℕ). front ++ back)
    (elim (cases_Bool (is_kept x)) [
      | inl kept ↦ rw (same x, kept) refl
      | inr other ↦ rw (same x, other) refl
    ])
    rest

pub part_encoded : (bytes : List ℕ) → percent_encode PART_ESCAPES bytes ≡ part_text bytes
unfolding part_text
part_encoded = encoded PART_ESCAPES is_unreserved part_escapes

pub word_encoded : (bytes : List ℕ) → percent_encode WORD_ESCAPES bytes ≡ word_text bytes
unfolding word_text
word_encoded = encoded WORD_ESCAPES (λ b. is_unreserved b || b == 47) word_escapes

-- ---- the bytes of a text

-- a byte that continues a character
next_byte : (x : ℕ) → IsByte (next x)
next_byte x = omega arith

one_byte : (x : ℕ) → IsByte x → All IsByte (x ∷ [])
one_byte x small = All-cons IsByte x [] small (All-nil IsByte)

encode_bytes : (c : ℕ) → scalar c ≡ true → All IsByte (encode c)
unfolding encode
encode_bytes c is =
    let below : c < 1114112 = elim (scalar_cases c is) [ inl low ↦ omega arith | inr high ↦ high.1 ] in
    cond_both (nat_lt c 128) _ _ (All IsByte) (λ one. one_byte c (let small = ltb-true c 128 one in omega arith))
    (λ _. cond_both (nat_lt c 2048) _ _ (All IsByte) (λ two. let small = ltb-true c 2048 two in All-cons IsByte (192 + c / 64) (next c ∷ []) (omega arith) (one_byte (next c) (next_byte c)))
    (λ _. cond_both (nat_lt c 65536) _ _ (All IsByte) (λ three. let small = ltb-true c 65536 three in All-cons IsByte (224 + c / 4096) (next (c / 64) ∷ next c ∷ []) (omega arith) (All-cons IsByte (next (c / 64)) (next c ∷ []) (next_byte (c / 64)) (one_byte (next c) (next_byte c))))
    (λ _. All-cons IsByte (240 + c / 262144) (next (c / 4096) ∷ next (c / 64) ∷ next c ∷ []) (omega arith) (All-cons IsByte (next (c / 4096)) (next (c / 64) ∷ next c ∷ []) (next_byte (c / 4096)) (All-cons IsByte (next (c / 64)) (next c ∷ []) (next_byte (c / 64)) (one_byte (next c) (next_byte c)))))))

encodes_bytes : (cs : List ℕ) → scalars cs ≡ true → All IsByte (encodes cs)
encodes_bytes [] are = All-nil IsByte
encodes_bytes (c ∷ cs) are =
    let parts = and_parts _ _ are in
    All-append IsByte (encode c) (encodes cs) (encode_bytes c parts.0) (encodes_bytes cs parts.1)

pub bytes_of_text : (bytes : List ℕ) → IsUtf8 bytes → All IsByte bytes
bytes_of_text bytes utf8 = All-same IsByte bytes (encodes utf8.0) (sym utf8.1.1) (encodes_bytes utf8.0 utf8.1.0)

-- ---- reading

-- the escapes of a part are read as the part
pub part_again : (bytes : List ℕ) → All IsByte bytes → percent_decode (part_text bytes) ≡ bytes
part_again bytes small = ap percent_decode (sym (part_encoded bytes)) ∙ round_trip PART_ESCAPES bytes refl small

pub word_again : (bytes : List ℕ) → All IsByte bytes → percent_decode (word_text bytes) ≡ bytes
word_again bytes small = ap percent_decode (sym (word_encoded bytes)) ∙ round_trip WORD_ESCAPES bytes refl small

-- a part is read from its text
pub part_of-part_text : (part limit : ℕ) (text : List ℕ) → IsPart limit text → part_of part limit (part_text text) ≡ Ok text
unfolding part_of
part_of-part_text part limit text is =
    rw (part_again text (bytes_of_text text is.utf8), lt-ltb 0 (length text) is.nonempty, le-leb (length text) limit is.within, is_utf8-from_IsUtf8 text is.utf8) refl

-- the text of a part has no comma
escape_no_comma : (b : ℕ) → IsEscapeByte b → (b == comma) ≡ false
escape_no_comma b is = ne_eqb b comma (λ e. grind arith)

kept_no_comma : (b : ℕ) → should_percent_encode PART_ESCAPES b ≡ false → (b == comma) ≡ false
kept_no_comma b kept =
    let unreserved = sym (part_escapes b) ∙ kept in
    grind (arith, nat_tests)

pub part_no_comma : (bytes : List ℕ) → HasNo comma (part_text bytes)
part_no_comma bytes =
    All-same (λ b. (b == comma) ≡ false) (part_text bytes) (percent_encode PART_ESCAPES bytes) (sym (part_encoded bytes))
    (All-percent_encode (λ b. (b == comma) ≡ false) PART_ESCAPES bytes kept_no_comma escape_no_comma)

-- four parts are as many texts
pub key_of_parts-count : (parts : List (List ℕ)) → length parts ≢ 4 → key_of_parts parts ≡ Err PartCount
unfolding key_of_parts
key_of_parts-count [] other = refl
key_of_parts-count (a ∷ []) other = refl
key_of_parts-count (a ∷ b ∷ []) other = refl
key_of_parts-count (a ∷ b ∷ c ∷ []) other = refl
key_of_parts-count (a ∷ b ∷ c ∷ d ∷ []) other = absurd (other refl)
key_of_parts-count (a ∷ b ∷ c ∷ d ∷ e ∷ more) other = refl

-- a key is read from its text
pub key_read-key_text : (k : Key) → IsKey k → key_of (key_text k) ≡ Ok k
unfolding key_of key_of_parts key_text
key_read-key_text k is =
    let parts = four_joined comma (part_text k.name) (part_text k.token) (part_text k.language) (part_text k.architecture)
    (part_no_comma k.name) (part_no_comma k.token) (part_no_comma k.language) (part_no_comma k.architecture) in
    ap key_of_parts parts ∙ rw (part_of-part_text 1 NAME_LIMIT k.name is.name, part_of-part_text 2 IDENTITY_PART_LIMIT k.token is.token, part_of-part_text 3 IDENTITY_PART_LIMIT k.language is.language, part_of-part_text 4 IDENTITY_PART_LIMIT k.architecture is.architecture) refl

abbrev done : Key → Result Key KeyFault
done k = Ok k

-- keys of one text are one key
pub key_text_injective : (a b : Key) → IsKey a → IsKey b → key_text a ≡ key_text b → a ≡ b
key_text_injective a b is_a is_b same =
    let both : done a ≡ done b = sym (key_read-key_text a is_a) ∙ ap key_of same ∙ key_read-key_text b is_b in
    cc

-- ---- what is read

-- what passes the test is a part
pub part_from_passes : (limit : ℕ) (text : List ℕ) → is_part limit text ≡ true → IsPart limit text
part_from_passes limit text passes =
    let parts = and_parts (nat_lt 0 (length text) && nat_le (length text) limit) (is_utf8 text) passes in
    let lengths = and_parts (nat_lt 0 (length text)) (nat_le (length text) limit) parts.0 in
    record {
      nonempty = ltb-true 0 (length text) lengths.0;
      within = leb-true (length text) limit lengths.1;
      utf8 = IsUtf8-from_is_utf8 text parts.1;
    }

abbrev texts : List ℕ → Result (List ℕ) KeyFault
texts t = Ok t

part_read : (part limit : ℕ) (bytes text : List ℕ) → part_of part limit bytes ≡ Ok text → IsPart limit text
unfolding part_of
part_read part limit bytes text read = elim (cases_Bool (is_part limit (percent_decode bytes))) [
  | inl passes ↦
      let same : texts (percent_decode bytes) ≡ texts text = sym (cond-true _ _ _ passes) ∙ read in
      let is : percent_decode bytes ≡ text = cc in
      subst (IsPart limit) is (part_from_passes limit (percent_decode bytes) passes)
  | inr fails ↦ absurd (let failed : Err (BadPart part) ≡ texts text = sym (cond-false _ _ _ fails) ∙ read in cc)
]

-- the value of a step that did not fail
bind_ok : {A B : Type 0} (r : Result A KeyFault) (f : A → Result B KeyFault) (y : B) → (r >>= f) ≡ Ok y → (x : A) × (r ≡ Ok x) × (f x ≡ Ok y)
bind_ok (Ok x) f y e = (x, refl, e)
bind_ok (Err d) f y e = absurd cc

parts_read : (first second third fourth : List ℕ) (k : Key) → key_of_parts (first ∷ second ∷ third ∷ fourth ∷ []) ≡ Ok k → IsKey k
unfolding key_of_parts
parts_read first second third fourth k read =
    let n = bind_ok (part_of 1 NAME_LIMIT first) _ k read in
    let t = bind_ok (part_of 2 IDENTITY_PART_LIMIT second) _ k n.2 in
    let l = bind_ok (part_of 3 IDENTITY_PART_LIMIT third) _ k t.2 in
    let a = bind_ok (part_of 4 IDENTITY_PART_LIMIT fourth) _ k l.2 in
    let same : done (record { name = n.0; token = t.0; language = l.0; architecture = a.0 }) ≡ done k = a.2 in
    let is : record { name = n.0; token = t.0; language = l.0; architecture = a.0 } ≡ k = cc in
    subst IsKey is (record {
      name = part_read 1 NAME_LIMIT first n.0 n.1;
      token = part_read 2 IDENTITY_PART_LIMIT second t.0 t.1;
      language = part_read 3 IDENTITY_PART_LIMIT third l.0 l.1;
      architecture = part_read 4 IDENTITY_PART_LIMIT fourth a.0 a.1;
    })

many_parts : (parts : List (List ℕ)) (k : Key) → key_of_parts parts ≡ Ok k → IsKey k
unfolding key_of_parts
many_parts [] k read = absurd cc
many_parts (a ∷ []) k read = absurd cc
many_parts (a ∷ b ∷ []) k read = absurd cc
many_parts (a ∷ b ∷ c ∷ []) k read = absurd cc
many_parts (a ∷ b ∷ c ∷ d ∷ []) k read = parts_read a b c d k read
many_parts (a ∷ b ∷ c ∷ d ∷ e ∷ more) k read = absurd cc

-- what is read is a key
pub IsKey-from_read : (bytes : List ℕ) (k : Key) → key_of bytes ≡ Ok k → IsKey k
unfolding key_of
IsKey-from_read bytes k read = many_parts (parts_between comma bytes) k read

-- and so is what a call gives
pub IsKey-from_gives : (r : Result Key KeyFault) (bytes : List ℕ) → Gives r (key_of bytes) → IfOk r IsKey
IsKey-from_gives (Ok k) bytes gives = IsKey-from_read bytes k gives
IsKey-from_gives (Err e) bytes gives = tt
