-- What is written of a version is read again.
use Rattle.std.proofs.Common.{◌≡◌, ◌≢◌, ℕ, ◌^◌, ◌+◌, ◌-◌, ◌<◌, ◌≤◌, true, false, ◌==◌, List, [], ◌∷◌, length, take, drop, ◌++◌, Ok, Err, decimal, refl, sym, ap, ap₂, subst, ◌∙◌, inl, inr, arith, append_assoc, take-append-drop}
use Rattle.std.specs.Char.{is_ascii_digit}
use Rattle.std.specs.List.{list_all}
use Rattle.std.specs.Ordering.{is_lt}
use Rattle.std.proofs.lemmas.Bool.{and_parts, ne_eqb, le-ltb, both_ways, cases_Bool, cond-true, cond-false}
use Rattle.std.proofs.lemmas.Bool.Decides.{nat_tests}
use Rattle.std.proofs.lemmas.List.{length-append, drop-drop}
use Rattle.std.proofs.lemmas.List.Elements.{All-nil, All-cons}
use Rattle.std.proofs.lemmas.Fmt.{digits_decimal, digits_value-decimal, length-decimal-le, decimal_nonempty}
use Rattle.small_types.proofs.DecimalLemmas.{AreDigits, own}
use Rattle.identity.specs.declared.version.Version.{Version}
use Rattle.identity.specs.declared.version.VersionFault.TheVariants.{PartCount}
use Rattle.identity.specs.Version.{dot, IsVersion, IsBelow, version_cmp, greater_of, version_text, number_of, version_of_parts, version_of}
use Rattle.identity.proofs.PartsLemmas.{HasNo, four_joined}

digits_no_dot : (bytes : List ℕ) → AreDigits bytes → HasNo dot bytes
digits_no_dot [] digits = All-nil _
digits_no_dot (x ∷ xs) digits =
    let parts = and_parts (is_ascii_digit x) (list_all is_ascii_digit xs) digits in
    let other : (x == dot) ≡ false = grind (arith, nat_tests) in
    All-cons (λ b. (b == dot) ≡ false) x xs other (digits_no_dot xs parts.1)

-- a number is read from its digits
pub number_of-decimal : (part n : ℕ) → n < 2 ^ 16 → number_of part (decimal n) ≡ Ok n
unfolding number_of
number_of-decimal part n small =
    let digits = digits_decimal own n (omega arith) in
    let value = digits_value-decimal own n (omega arith) in
    let short = length-decimal-le 5 n (omega arith) (omega arith) (omega arith) in
    let some = decimal_nonempty n (omega arith) in
    rw (ne_eqb (length (decimal n)) 0 (λ e. omega arith), digits, le-ltb 5 (length (decimal n)) short, value, le-ltb 65535 n (omega arith)) refl

-- four parts are as many numbers
pub version_of_parts-count : (parts : List (List ℕ)) → length parts ≢ 4 → version_of_parts parts ≡ Err PartCount
unfolding version_of_parts
version_of_parts-count [] other = refl
version_of_parts-count (a ∷ []) other = refl
version_of_parts-count (a ∷ b ∷ []) other = refl
version_of_parts-count (a ∷ b ∷ c ∷ []) other = refl
version_of_parts-count (a ∷ b ∷ c ∷ d ∷ []) other = absurd (other refl)
version_of_parts-count (a ∷ b ∷ c ∷ d ∷ e ∷ more) other = refl

-- a version is read from its text
pub version_read-version_text : (v : Version) → IsVersion v → version_of (version_text v) ≡ Ok v
unfolding version_of version_of_parts version_text
version_read-version_text v fits =
    let a = digits_decimal own v.a (omega arith) in
    let b = digits_decimal own v.b (omega arith) in
    let c = digits_decimal own v.c (omega arith) in
    let d = digits_decimal own v.d (omega arith) in
    let parts = four_joined dot (decimal v.a) (decimal v.b) (decimal v.c) (decimal v.d) (digits_no_dot _ a) (digits_no_dot _ b) (digits_no_dot _ c) (digits_no_dot _ d) in
    ap version_of_parts parts ∙ rw (number_of-decimal 1 v.a fits.a, number_of-decimal 2 v.b fits.b, number_of-decimal 3 v.c fits.c, number_of-decimal 4 v.d fits.d) refl

-- ---- writing in place

later : (m n : ℕ) (xs ys : List ℕ) → m ≤ n → drop m xs ≡ drop m ys → drop n xs ≡ drop n ys
later m n xs ys le same =
    let sum : m + (n - m) ≡ n = omega arith in
    let step : drop (m + (n - m)) xs ≡ drop (m + (n - m)) ys = sym (drop-drop (n - m) m xs) ∙ ap (drop (n - m)) same ∙ drop-drop (n - m) m ys in
    rw sum at step

-- four numbers written one after another
pub record Written (v : Version) (before after₁ after₂ after₃ after : List ℕ) (end₁ end₂ end₃ end : ℕ) : Type 0 where
  pub first : take end₁ after₁ ≡ decimal v.a
  pub second : take end₂ after₂ ≡ take end₁ after₁ ++ dot ∷ decimal v.b
  pub third : take end₃ after₃ ≡ take end₂ after₂ ++ dot ∷ decimal v.c
  pub fourth : take end after ≡ take end₃ after₃ ++ dot ∷ decimal v.d
  pub rest₁ : drop end₁ after₁ ≡ drop end₁ before
  pub rest₂ : drop end₂ after₂ ≡ drop end₂ after₁
  pub rest₃ : drop end₃ after₃ ≡ drop end₃ after₂
  pub rest : drop end after ≡ drop end after₃
  pub end₁_is : end₁ ≡ length (decimal v.a)
  pub end₂_is : end₂ ≡ end₁ + 1 + length (decimal v.b)
  pub end₃_is : end₃ ≡ end₂ + 1 + length (decimal v.c)
  pub end_is : end ≡ end₃ + 1 + length (decimal v.d)

pub written_text : (v : Version) (before after₁ after₂ after₃ after : List ℕ) (end₁ end₂ end₃ end : ℕ) → Written v before after₁ after₂ after₃ after end₁ end₂ end₃ end → after ≡ version_text v ++ drop end before
unfolding version_text
written_text v before after₁ after₂ after₃ after end₁ end₂ end₃ end w =
    let front : take end after ≡ version_text v = w.fourth ∙ rw (w.third, w.second, w.first) (simp append_assoc) in
    let back : drop end after ≡ drop end before =
    w.rest ∙ later end₃ end after₃ after₂ (omega arith) w.rest₃ ∙ later end₂ end after₂ after₁ (omega arith) w.rest₂ ∙ later end₁ end after₁ before (omega arith) w.rest₁ in
    sym (take-append-drop end after) ∙ ap₂ (λ (x y : List ℕ). x ++ y) front back

pub written_length : (v : Version) (before after₁ after₂ after₃ after : List ℕ) (end₁ end₂ end₃ end : ℕ) → Written v before after₁ after₂ after₃ after end₁ end₂ end₃ end → end ≡ length (version_text v)
unfolding version_text
written_length v before after₁ after₂ after₃ after end₁ end₂ end₃ end w = simp length-append (omega arith)

-- ---- the order

-- the order answers `Less` exactly where the first version is below the second
pub IsBelow-from_cmp : (v w : Version) → is_lt (version_cmp v w) ≡ true → IsBelow v w
IsBelow-from_cmp v w less = grind (arith, nat_tests)

pub cmp_from_IsBelow : (v w : Version) → IsBelow v w → is_lt (version_cmp v w) ≡ true
cmp_from_IsBelow v w below = grind (arith, nat_tests)

-- no version is below itself, and what is below what is below is below
pub IsBelow-irreflexive : (v : Version) → ¬ IsBelow v v
IsBelow-irreflexive v below = grind arith

pub IsBelow-trans : (u v w : Version) → IsBelow u v → IsBelow v w → IsBelow u w
IsBelow-trans u v w first second = grind arith

-- the greater of two is below neither
pub greater_of-old : (old new : Version) → ¬ IsBelow (greater_of old new) old
greater_of-old old new below = elim (cases_Bool (is_lt (version_cmp old new))) [
  | inl less ↦ IsBelow-irreflexive old (IsBelow-trans old new old (IsBelow-from_cmp old new less) (subst (λ (v : Version). IsBelow v old) (cond-true _ _ _ less) below))
  | inr same ↦ IsBelow-irreflexive old (subst (λ (v : Version). IsBelow v old) (cond-false _ _ _ same) below)
]

pub greater_of-new : (old new : Version) → ¬ IsBelow (greater_of old new) new
greater_of-new old new below = elim (cases_Bool (is_lt (version_cmp old new))) [
  | inl less ↦ IsBelow-irreflexive new (subst (λ (v : Version). IsBelow v new) (cond-true _ _ _ less) below)
  | inr same ↦ both_ways (is_lt (version_cmp old new)) same (cmp_from_IsBelow old new (subst (λ (v : Version). IsBelow v new) (cond-false _ _ _ same) below))
]
