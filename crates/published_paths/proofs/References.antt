-- The references that lead to what a publish writes.
use Rattle.std.proofs.Common.{◌≡◌, ◌≢◌, ℕ, ◌-◌, ◌<◌, ◌≤◌, ◌^◌, Bool, true, false, not, ◌&&◌, ◌||◌, ◌==◌, nat_lt, List, [], ◌∷◌, ◌++◌, length, get_or, All, refl, sym, ap, subst, append_assoc, arith, lit<}
use Rattle.std.specs.Prelude.{codes, decimal}
use Rattle.std.specs.Int.{IsInRange}
use Rattle.std.specs.List.{list_all}
use Rattle.std.proofs.lemmas.Bool.{cond-false, cond-true, cond_both, both_ways, and_parts, eq-eqb}
use Rattle.std.proofs.lemmas.Bool.Decides.{nat_tests}
use Rattle.std.proofs.lemmas.Fmt.{digits_decimal}
use Rattle.std.proofs.lemmas.Str.Parse.{numerals_by_value, tells_by_index}
use Rattle.std.proofs.lemmas.Grind.{flat_map-append}
use Rattle.std.proofs.lemmas.List.{length-append, get_or_at}
use Rattle.std.proofs.lemmas.List.Elements.{All-cons, All-append, All-weaker, All-from_get_or}
use Rattle.percent_encoding.specs.declared.ascii_set.AsciiSet.{AsciiSet}
use Rattle.percent_encoding.specs.Percent.{percent_encode, percent_encode_byte}
use Rattle.percent_encoding.proofs.PercentLemmas.{IsByte, IsEscapeByte, All-percent_encode}
use Rattle.url.specs.declared.scheme.SchemeType.TheVariants.{SpecialNotFile}
use Rattle.url.specs.Scheme.{is_slash}
use Rattle.url.specs.Parser.{leading_slashes}
use Rattle.url.proofs.InputLemmas.{IsNot, Passes, All_from_list_all}
use Rattle.url.proofs.SetLemmas.{outside_pass, passes_from_kept}
use Rattle.small_types.specs.Name.{is_name_part, name_parts}
use Rattle.identity.specs.Key.{is_unreserved, word_text}
use Rattle.identity.proofs.KeyLemmas.{word_encoded}
use Rattle.addresses.specs.Join.{file_reference}
use Rattle.publish_plan.specs.declared.options.Options.{Options}
use Rattle.publish_plan.specs.Places.{codebase, deploy_end, is_plain_name, is_plain_byte, manifest_end, release_word, version_word}
use Rattle.published_paths.specs.Reached.{IsPublishable}
use Rattle.published_paths.proofs.Again.{all_kept, visible_kept}
use Rattle.published_paths.proofs.Beside.{IsReference}
use Rattle.published_paths.proofs.Paths.{IsFree}

-- ---- a file's name

-- a visible byte that begins neither a scheme nor a query nor a fragment
abbrev is_visible : ℕ → Bool
is_visible b = nat_lt 32 b && not (b == 35) && not (b == 58) && not (b == 63) && nat_lt b 256

escape_visible : (b : ℕ) → IsEscapeByte b → is_visible b ≡ true
escape_visible b is = grind (arith, nat_tests)

encoded_visible : (set : AsciiSet) (bytes : List ℕ) → outside_pass set is_visible ≡ true → All (Passes is_visible) (percent_encode set bytes)
encoded_visible set bytes all = All-percent_encode (Passes is_visible) set bytes (passes_from_kept set is_visible all) escape_visible

word_visible : (bytes : List ℕ) → All (Passes is_visible) (word_text bytes)
word_visible bytes = subst (All (Passes is_visible)) (word_encoded bytes) (encoded_visible _ bytes refl)

first_is : (bytes : List ℕ) → list_all is_name_part (name_parts bytes) ≡ true → (b : ℕ) × (rest : List ℕ) × (bytes ≡ b ∷ rest) × (b ≢ 47)
first_is [] are = absurd cc
first_is (b ∷ rest) are =
    (b, rest, refl, λ slash. let first : name_parts (b ∷ rest) ≡ [] ∷ name_parts rest = cond-true _ _ _ (eq-eqb b 47 slash) in both_ways (list_all is_name_part (name_parts (b ∷ rest))) (ap (list_all is_name_part) first) are)

escape_first : (b : ℕ) (more : List ℕ) → (0 < length (percent_encode_byte b ++ more)) × (leading_slashes SpecialNotFile (percent_encode_byte b ++ more) ≡ 0)
unfolding percent_encode_byte leading_slashes
escape_first b more = (omega arith, refl)

kept_first : (b : ℕ) (more : List ℕ) → (is_unreserved b || b == 47) ≡ true → b ≢ 47 → (0 < length (b ∷ more)) × (leading_slashes SpecialNotFile (b ∷ more) ≡ 0)
unfolding leading_slashes
kept_first b more kept other =
    let none : is_slash SpecialNotFile b ≡ false = grind (arith, nat_tests) in
    (omega arith, cond-false _ _ _ none)

word_first : (b : ℕ) (rest : List ℕ) → b ≢ 47 → (0 < length (word_text (b ∷ rest))) × (leading_slashes SpecialNotFile (word_text (b ∷ rest)) ≡ 0)
unfolding word_text
word_first b rest other =
    cond_both (is_unreserved b || b == 47) (b ∷ []) (percent_encode_byte b) (λ (front : List ℕ). (0 < length (front ++ word_text rest)) × (leading_slashes SpecialNotFile (front ++ word_text rest) ≡ 0))
    (λ kept. kept_first b (word_text rest) kept other) (λ _. escape_first b (word_text rest))

pub word_reference : (name : List ℕ) → list_all is_name_part (name_parts name) ≡ true → IsReference (word_text name)
word_reference name are =
    let visible = word_visible name in
    let weaker = λ (P : ℕ → Type 0) (each : (b : ℕ) → is_visible b ≡ true → P b). All-weaker (Passes is_visible) P each (word_text name) visible in
    let first = first_is name are in
    let front = subst (λ (n : List ℕ). (0 < length (word_text n)) × (leading_slashes SpecialNotFile (word_text n) ≡ 0)) (sym first.2) (word_first first.0 first.1 first.3) in
    record {
      clean = all_kept (word_text name) (weaker (λ b. 32 < b) (λ b passes. grind (arith, nat_tests)));
      hash = weaker (IsNot 35) (λ b passes same. grind (arith, nat_tests));
      question = weaker (IsNot 63) (λ b passes same. grind (arith, nat_tests));
      colon = weaker (IsNot 58) (λ b passes same. grind (arith, nat_tests));
      relative = front.1;
      some = front.0;
      bytes = weaker IsByte (λ b passes. grind (arith, nat_tests));
    }

pub file_word : (mapped : Bool) (name : List ℕ) → file_reference mapped name ≡ word_text (name ++ deploy_end mapped)
unfolding file_reference word_text
file_word true name = sym (flat_map-append _ name (codes ".deploy"))
file_word false name = sym (flat_map-append _ name [])

-- ---- the codebase

-- a byte of the words of a release
abbrev pub IsPlainByte : ℕ → Type 0
IsPlainByte b = is_plain_byte b ≡ true

pub word_free : (b : ℕ) → IsPlainByte b → IsFree b
word_free b is = (grind (arith, nat_tests), grind (arith, nat_tests))

pub word_byte : (b : ℕ) → IsPlainByte b → IsByte b
word_byte b is = grind (arith, nat_tests)

pub word_bytes : (word : List ℕ) → is_plain_name word ≡ true → All IsPlainByte word
unfolding is_plain_name
word_bytes word is = All_from_list_all is_plain_byte word (and_parts _ _ is).1

digit_word : (b : ℕ) → IsInRange 48 57 b → IsPlainByte b
digit_word b digit = grind (arith, nat_tests)

number_word : (n : ℕ) → n < 2 ^ 64 → All IsPlainByte (decimal n)
number_word n small = All-from_get_or IsPlainByte (decimal n) 0 (λ i inside. digit_word _ (digits_decimal (numerals_by_value _ tells_by_index) n small i inside))

pub release_bytes : (o : Options) → IsPublishable o → All IsPlainByte (release_word o)
unfolding release_word version_word
release_bytes o is =
    let v = o.version in
    let fit = is.version in
    let fourth = number_word v.d (omega (arith, fit.d)) in
    let third = All-append IsPlainByte (decimal v.c) (95 ∷ decimal v.d) (number_word v.c (omega (arith, fit.c))) (All-cons IsPlainByte 95 (decimal v.d) refl fourth) in
    let second = All-append IsPlainByte (decimal v.b) (95 ∷ (decimal v.c ++ 95 ∷ decimal v.d)) (number_word v.b (omega (arith, fit.b))) (All-cons IsPlainByte 95 (decimal v.c ++ 95 ∷ decimal v.d) refl third) in
    let first = All-append IsPlainByte (decimal v.a) (95 ∷ (decimal v.b ++ 95 ∷ (decimal v.c ++ 95 ∷ decimal v.d))) (number_word v.a (omega (arith, fit.a))) (All-cons IsPlainByte 95 (decimal v.b ++ 95 ∷ (decimal v.c ++ 95 ∷ decimal v.d)) refl second) in
    All-append IsPlainByte o.name (95 ∷ version_word v) (word_bytes o.name is.name) (All-cons IsPlainByte 95 (version_word v) refl first)

pub folder_bytes : All IsPlainByte (codes "Application Files")
folder_bytes = All_from_list_all is_plain_byte (codes "Application Files") refl

pub ending_bytes : (ending : List ℕ) → list_all is_plain_byte ending ≡ true → (front : List ℕ) → All IsPlainByte front → All IsPlainByte (front ++ ending)
ending_bytes ending are front is = All-append IsPlainByte front ending is (All_from_list_all is_plain_byte ending are)

pub manifest_bytes : (o : Options) → IsPublishable o → All IsPlainByte (o.entry ++ manifest_end)
manifest_bytes o is = ending_bytes manifest_end refl o.entry (word_bytes o.entry is.entry)

-- a byte of the codebase
abbrev is_code_byte : ℕ → Bool
is_code_byte b = is_plain_byte b || b == 92

code_bytes : (a b c : List ℕ) → All IsPlainByte a → All IsPlainByte b → All IsPlainByte c → All (Passes is_code_byte) (a ++ 92 ∷ (b ++ 92 ∷ c))
code_bytes a b c all_a all_b all_c =
    let P = Passes is_code_byte in
    let wider = All-weaker IsPlainByte P (λ x is. grind (arith, nat_tests)) in
    All-append P a (92 ∷ (b ++ 92 ∷ c)) (wider a all_a) (All-cons P 92 (b ++ 92 ∷ c) refl (All-append P b (92 ∷ c) (wider b all_b) (All-cons P 92 c refl (wider c all_c))))

last_visible : (front : List ℕ) → 32 < get_or (front ++ 116 ∷ []) (length (front ++ 116 ∷ []) - 1) 0
last_visible front =
    let place : length front ≡ length (front ++ 116 ∷ []) - 1 = simp length-append (omega arith) in
    let last = get_or_at front 116 [] 0 (length (front ++ 116 ∷ []) - 1) place in
    omega (arith, last)

-- the codebase, and what stands in it before its last byte
codebase_front : (o : Options) → (front : List ℕ) × (codebase o ≡ front ++ 116 ∷ [])
unfolding codebase
codebase_front o =
    (codes "Application Files" ++ 92 ∷ (release_word o ++ 92 ∷ (o.entry ++ codes ".manifes")), simp append_assoc)

codebase_first : (o : Options) → (32 < get_or (codebase o) 0 0) × (leading_slashes SpecialNotFile (codebase o) ≡ 0) × (0 < length (codebase o))
unfolding codebase leading_slashes
codebase_first o = (lit< tt, refl, omega arith)

codebase_bytes : (o : Options) → IsPublishable o → All (Passes is_code_byte) (codebase o)
unfolding codebase
codebase_bytes o is = code_bytes (codes "Application Files") (release_word o) (o.entry ++ manifest_end) folder_bytes (release_bytes o is) (manifest_bytes o is)

pub codebase_reference : (o : Options) → IsPublishable o → IsReference (codebase o)
codebase_reference o is =
    let bytes = codebase_bytes o is in
    let weaker = λ (P : ℕ → Type 0) (each : (b : ℕ) → is_code_byte b ≡ true → P b). All-weaker (Passes is_code_byte) P each (codebase o) bytes in
    let first = codebase_first o in
    let last = codebase_front o in
    record {
      clean = visible_kept (codebase o) (weaker (λ b. 32 ≤ b) (λ b passes. grind (arith, nat_tests))) (λ _. first.0) (λ _. subst (λ (t : List ℕ). 32 < get_or t (length t - 1) 0) (sym last.1) (last_visible last.0));
      hash = weaker (IsNot 35) (λ b passes same. grind (arith, nat_tests));
      question = weaker (IsNot 63) (λ b passes same. grind (arith, nat_tests));
      colon = weaker (IsNot 58) (λ b passes same. grind (arith, nat_tests));
      relative = first.1;
      some = first.2;
      bytes = weaker IsByte (λ b passes. grind (arith, nat_tests));
    }
