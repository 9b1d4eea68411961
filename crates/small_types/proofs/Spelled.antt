-- What is read of a name is read again as itself.
use Rattle.std.proofs.Common.{◌≡◌, ℕ, ◌<◌, Bool, true, false, cond, not, ◌==◌, ◌&&◌, nat_lt, nat_le, List, [], ◌∷◌, length, take, Some, None, Ok, Err, IsUtf8, position, slice_get, refl, sym, ap, if◌then◌else◌, ap₂, ◌∙◌, inl, inr, arith}
use Rattle.std.specs.List.{position_or_len, list_all}
use Rattle.std.specs.Str.{is_utf8}
use Rattle.std.proofs.lemmas.Bool.{and_parts, cases_Bool, cond-true, cond-false, false_from_ne_true, ltb-true, ltb-false, leb-true}
use Rattle.std.proofs.lemmas.List.{length-map}
use Rattle.std.proofs.lemmas.List.Splits.{slice_split_first}
use Rattle.std.proofs.lemmas.Str.{IsUtf8-from_is_utf8, is_utf8-from_IsUtf8}
use Rattle.small_types.specs.declared.limits.TheConstants.{NAME_LIMIT}
use Rattle.small_types.proofs.CutLemmas.{whole}
use Rattle.small_types.specs.declared.name.NameFault.TheVariants.{Bad}
use Rattle.small_types.specs.Name.{name_text, name_parts, is_name_byte, is_name_part, is_name, IsName, name_of}

-- ---- the first part

pub first_whole : (text : List ℕ) → None ≡ position (λ b. b == 47) text → slice_get (name_parts text) 0 ≡ Some text
first_whole text none = elim (cases_Bool (nat_lt (position_or_len (λ b. b == 47) text) (length text))) [
  | inl inside ↦ absurd (let found : None ≡ Some (position_or_len (λ b. b == 47) text) = none ∙ cond-true _ _ _ inside in cc)
  | inr past ↦ ap (λ (parts : List (List ℕ)). slice_get parts 0) (whole (λ b. b == 47) text (ltb-false _ _ past))
]

pub first_cut : (text : List ℕ) (place : ℕ) → Some place ≡ position (λ b. b == 47) text → slice_get (name_parts text) 0 ≡ Some (take place text)
first_cut text place found = elim (cases_Bool (nat_lt (position_or_len (λ b. b == 47) text) (length text))) [
  | inl inside ↦
      let same : Some place ≡ Some (position_or_len (λ b. b == 47) text) = found ∙ cond-true _ _ _ inside in
      let at : place ≡ position_or_len (λ b. b == 47) text = cc in
      rw at (ap (λ (parts : List (List ℕ)). slice_get parts 0) (slice_split_first (λ b. b == 47) text 0 (ltb-true _ _ inside)))
  | inr past ↦ absurd (let none : Some place ≡ None = found ∙ cond-false _ _ _ past in cc)
]

-- ---- what is a name

-- all but that it is UTF-8
abbrev pub is_fit : List ℕ → Bool
is_fit text = nat_lt 0 (length text) && nat_le (length text) NAME_LIMIT && list_all is_name_byte text && list_all is_name_part (name_parts text)

name_parts_of : (text : List ℕ) → is_name text ≡ true → (is_fit text ≡ true) × (is_utf8 text ≡ true)
unfolding is_name
name_parts_of text is = and_parts (is_fit text) (is_utf8 text) is

is_name_from : (text : List ℕ) → is_fit text ≡ true → is_utf8 text ≡ true → is_name text ≡ true
unfolding is_name
is_name_from text fit utf8 = rw (fit, utf8) refl

pub not_fit : (text : List ℕ) → is_fit text ≡ false → ¬ IsName text
not_fit text unfit = λ is. let both : true ≡ false = sym (name_parts_of text is).0 ∙ unfit in cc

pub not_text : (text : List ℕ) → (¬ IsUtf8 text) → ¬ IsName text
not_text text other = λ is. other (IsUtf8-from_is_utf8 text (name_parts_of text is).1)

pub name_from : (text : List ℕ) → is_fit text ≡ true → IsUtf8 text → IsName text
name_from text fit utf8 = is_name_from text fit (is_utf8-from_IsUtf8 text utf8)

-- ---- reading

length_text : (bytes : List ℕ) → length (name_text bytes) ≡ length bytes
length_text bytes = length-map bytes (λ b. if b == 92 then 47 else b)

-- bytes that spell no name
pub unread : (bytes : List ℕ) → is_name (name_text bytes) ≡ false → name_of bytes ≡ Err Bad
unfolding name_of
unread bytes none = cond-false _ _ _ none

-- what fits a name has no backslash
kept_byte : (b : ℕ) → is_name_byte b ≡ true → cond (b == 92) 47 b ≡ b
kept_byte b fits = elim (cases_Bool (b == 92)) [
  | inl is ↦ absurd (let no = (and_parts _ (not (b == 92)) fits).1 in let same : not (b == 92) ≡ false = ap not is in let both : true ≡ false = sym no ∙ same in cc)
  | inr other ↦ cond-false _ _ _ other
]

kept_text : (text : List ℕ) → list_all is_name_byte text ≡ true → name_text text ≡ text
kept_text [] fits = refl
kept_text (x ∷ xs) fits =
    let both = and_parts (is_name_byte x) (list_all is_name_byte xs) fits in
    ap₂ (λ (y : ℕ) (ys : List ℕ). y ∷ ys) (kept_byte x both.0) (kept_text xs both.1)

-- a name is read as itself
pub read_again : (text : List ℕ) → IsName text → name_of text ≡ Ok text
unfolding name_of
read_again text is =
    let all = (name_parts_of text is).0 in
    let bytes_fit = (and_parts (nat_lt 0 (length text) && nat_le (length text) NAME_LIMIT && list_all is_name_byte text) (list_all is_name_part (name_parts text)) all).0 in
    let each = (and_parts (nat_lt 0 (length text) && nat_le (length text) NAME_LIMIT) (list_all is_name_byte text) bytes_fit).1 in
    rw (kept_text text each) (cond-true _ _ _ is)

-- ---- tests without memory

pub spelled : (bytes : List ℕ) → IsUtf8 bytes → is_utf8 bytes ≡ true
spelled bytes is = is_utf8-from_IsUtf8 bytes is

pub unspelled : (bytes : List ℕ) → ¬ IsUtf8 bytes → is_utf8 bytes ≡ false
unspelled bytes isnt = false_from_ne_true (is_utf8 bytes) (λ is. isnt (IsUtf8-from_is_utf8 bytes is))

pub no_long_name : (bytes : List ℕ) → NAME_LIMIT < length bytes → is_name (name_text bytes) ≡ false
no_long_name bytes over =
    false_from_ne_true (is_name (name_text bytes)) (λ is.
    let all = (name_parts_of (name_text bytes) is).0 in
    let bytes_fit = (and_parts (nat_lt 0 (length (name_text bytes)) && nat_le (length (name_text bytes)) NAME_LIMIT && list_all is_name_byte (name_text bytes)) _ all).0 in
    let lengths = (and_parts (nat_lt 0 (length (name_text bytes)) && nat_le (length (name_text bytes)) NAME_LIMIT) _ bytes_fit).0 in
    let within = leb-true _ _ (and_parts (nat_lt 0 (length (name_text bytes))) (nat_le (length (name_text bytes)) NAME_LIMIT) lengths).1 in
    omega (arith, length_text bytes))
