-- A word of hexadecimal digits.
use Rattle.std.proofs.Common.{◌≡◌, ◌≤◌, ◌&&◌, ◌⊎◌, ◌∙◌, ℕ, Bool, true, false, List, length, Option, Some, None, is_some, if◌then◌else◌, Result, Ok, Err, inl, inr, nat_le, refl, sym, ap, subst, arith}
use Rattle.std.specs.List.{list_all}
use Rattle.std.proofs.lemmas.Bool.{and_from, and_parts, cond-true, false_from_ne_true, le-leb, leb-true}
use Rattle.std.proofs.lemmas.List.Sums.{AllPass-from_list_all, list_all-from_AllPass}
use Rattle.hex.specs.declared.error.FromHexError.{FromHexError}
use Rattle.hex.specs.declared.error.FromHexError.TheVariants.{OutOfMemory}
use Rattle.hex.specs.Hex.{decode_of, is_hex_digit}
use Rattle.hex.proofs.HexLemmas.{decode_of-digits, decode_of-ok, decode_of-same}
use Rattle.small_types.specs.declared.limits.TheConstants.{PIECE_LIMIT}
use Rattle.command_text.specs.Lines.{HasLength, bytes_in, digit_bytes}

-- what a word has that spells bytes
record Spells (word : List ℕ) : Type 0 where
  long : HasLength word
  digits : list_all is_hex_digit word ≡ true

tested : (test : Bool) (bytes : List ℕ) → is_some (if test then Some bytes else None) ≡ true → test ≡ true
tested true bytes is = refl
tested false bytes is = absurd (let no = is in cc)

-- there are some bytes, and not too many
few_bytes : (bytes : List ℕ) → is_some (bytes_in (Ok bytes)) ≡ true
    → (1 ≤ length bytes) × (length bytes ≤ PIECE_LIMIT)
few_bytes bytes is =
    let both = tested (nat_le 1 (length bytes) && nat_le (length bytes) PIECE_LIMIT) bytes is in
    let two = and_parts (nat_le 1 (length bytes)) (nat_le (length bytes) PIECE_LIMIT) both in
    (leb-true 1 (length bytes) two.0, leb-true (length bytes) PIECE_LIMIT two.1)

form_of : (word : List ℕ) (read : Result (List ℕ) FromHexError) → decode_of word ≡ read
    → is_some (bytes_in read) ≡ true → Spells word
form_of word (Err fault) same is = absurd (let no = is in cc)
form_of word (Ok bytes) same is =
    let known = decode_of-ok word bytes same in
    let long = known.2 in
    let few = few_bytes bytes is in
    record {
      long = (omega arith, omega arith, known.0);
      digits = list_all-from_AllPass is_hex_digit word known.1;
    }

form : (word : List ℕ) → is_some (digit_bytes word) ≡ true → Spells word
unfolding digit_bytes
form word is = form_of word (decode_of word) refl is

-- a word without a length of this kind spells none
pub not_long : (word : List ℕ) → (HasLength word → ⊥) → is_some (digit_bytes word) ≡ false
not_long word not =
    false_from_ne_true (is_some (digit_bytes word)) (λ is. not (form word is).long)

-- one with it does where it has digits alone
spelled : (word : List ℕ) → HasLength word → list_all is_hex_digit word ≡ true
    → (bytes : List ℕ) × (decode_of word ≡ Ok bytes) × (digit_bytes word ≡ Some bytes)
    × (length bytes ≤ PIECE_LIMIT)
unfolding digit_bytes
spelled word long digits =
    let made = decode_of-digits word long.2 (AllPass-from_list_all is_hex_digit word digits) in
    let known = decode_of-ok word made.0 made.1 in
    let twice = known.2 in
    let some : 1 ≤ length made.0 = (let least = long.0 in omega arith) in
    let few : length made.0 ≤ PIECE_LIMIT = (let most = long.1 in omega arith) in
    let test =
    and_from (nat_le 1 (length made.0)) (nat_le (length made.0) PIECE_LIMIT)
    (le-leb 1 (length made.0) some) (le-leb (length made.0) PIECE_LIMIT few) in
    (made.0, made.1, ap bytes_in made.1 ∙ cond-true _ _ _ test, few)

as_digits : (word : List ℕ) → HasLength word → (all : Bool) → list_all is_hex_digit word ≡ all
    → is_some (digit_bytes word) ≡ all
as_digits word long true digits =
    let made = spelled word long digits in
    ap (λ (o : Option (List ℕ)). is_some o) made.2
as_digits word long false other =
    false_from_ne_true (is_some (digit_bytes word)) (λ is.
    (let digits = (form word is).digits in let no : true ≡ false = sym digits ∙ other in absurd (cc no)))

pub spells : (word : List ℕ) → HasLength word
    → list_all is_hex_digit word ≡ is_some (digit_bytes word)
spells word long = sym (as_digits word long (list_all is_hex_digit word) refl)

-- ---- what it spells

-- the decoded bytes are they, and few enough
pub decoded : (word bytes : List ℕ) → is_some (digit_bytes word) ≡ true → decode_of word ≡ Ok bytes
    → (Some bytes ≡ digit_bytes word) × (length bytes ≤ PIECE_LIMIT)
decoded word bytes is read =
    let has = form word is in
    let made = spelled word has.long has.digits in
    let same = decode_of-same word bytes made.0 read made.1 in
    (ap Some same ∙ sym made.2, subst (λ (b : List ℕ). length b ≤ PIECE_LIMIT) (sym same) made.3)

-- digits that were tested decode
pub decodes : (word : List ℕ) (fault : FromHexError) → is_some (digit_bytes word) ≡ true
    → decode_of word ≡ Err fault → ⊥
unfolding digit_bytes
decodes word fault is failed =
    let none : is_some (digit_bytes word) ≡ false =
    ap (λ (read : Result (List ℕ) FromHexError). is_some (bytes_in read)) failed in
    let same : true ≡ false = sym is ∙ none in
    cc

-- they decode, or there was no memory
pub only_memory : (word : List ℕ) (fault : FromHexError) → is_some (digit_bytes word) ≡ true
    → (fault ≡ OutOfMemory) ⊎ (decode_of word ≡ Err fault) → fault ≡ OutOfMemory
only_memory word fault is (inl memory) = memory
only_memory word fault is (inr failed) = absurd (decodes word fault is failed)
