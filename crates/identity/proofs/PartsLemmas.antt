-- Four texts that are joined and cut again.
use Rattle.std.proofs.Common.{◌≡◌, ◌≢◌, ℕ, ◌<◌, Bool, true, false, ◌==◌, List, [], ◌∷◌, ◌++◌, length, All, refl, ap, ◌∙◌, arith}
use Rattle.std.specs.List.{join_with_byte}
use Rattle.std.proofs.lemmas.Bool.{eq-eqb}
use Rattle.std.proofs.lemmas.List.Splits.{slice_split_at, slice_split_none}
use Rattle.small_types.specs.Cuts.{parts_between}

-- no byte is the separator
abbrev pub HasNo : ℕ → List ℕ → Type 0
HasNo separator bytes = All (λ b. (b == separator) ≡ false) bytes

-- four texts without the separator are the parts of what joins them
pub four_joined : (separator : ℕ) (a b c d : List ℕ) → HasNo separator a → HasNo separator b → HasNo separator c → HasNo separator d
    → parts_between separator (join_with_byte separator (a ∷ b ∷ c ∷ d ∷ [])) ≡ a ∷ b ∷ c ∷ d ∷ []
four_joined separator a b c d no_a no_b no_c no_d =
    let p : ℕ → Bool = λ x. x == separator in
    let is : p separator ≡ true = eq-eqb separator separator refl in
    let last = slice_split_none p d no_d in
    let third = slice_split_at p c separator d no_c is in
    let second = slice_split_at p b separator (c ++ separator ∷ d) no_b is in
    let first = slice_split_at p a separator (b ++ separator ∷ (c ++ separator ∷ d)) no_a is in
    first ∙ ap (λ (ps : List (List ℕ)). a ∷ ps) (second ∙ ap (λ (ps : List (List ℕ)). b ∷ ps) (third ∙ ap (λ (ps : List (List ℕ)). c ∷ ps) last))

-- a text that is cut four times has not four parts
pub five_parts : {a b c d : List ℕ} (all second third fourth more : List (List ℕ)) → all ≡ a ∷ second → second ≡ b ∷ third → third ≡ c ∷ fourth → fourth ≡ d ∷ more → 0 < length more → length all ≢ 4
five_parts all second third fourth more is second_is third_is fourth_is some four =
    omega (arith, ap (length {A = List ℕ}) is, ap (length {A = List ℕ}) second_is, ap (length {A = List ℕ}) third_is, ap (length {A = List ℕ}) fourth_is)
