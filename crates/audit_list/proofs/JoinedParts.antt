-- Texts that are joined by a separator and cut again.
use Rattle.std.proofs.Common.{◌≡◌, ◌≢◌, ℕ, Bool, true, false, ◌==◌, List, [], ◌∷◌, length, refl, ap, ◌∙◌, arith}
use Rattle.std.specs.List.{join_with_byte}
use Rattle.std.proofs.lemmas.Bool.{eq-eqb}
use Rattle.std.proofs.lemmas.List.Elements.{All-append, All-cons, All-nil}
use Rattle.std.proofs.lemmas.List.Splits.{slice_split_at, slice_split_none}
use Rattle.small_types.proofs.CutLemmas.{some_part}
use Rattle.small_types.specs.Cuts.{parts_between}
use Rattle.audit_list.proofs.PlainTexts.{HasNo}

-- none of the parts has the separator
abbrev pub NoneHas : ℕ → List (List ℕ) → Type 0
NoneHas separator [] = Unit {0}
NoneHas separator (part ∷ parts) = HasNo separator part × NoneHas separator parts

-- they are the parts of what joins them
pub parts_joined : (separator : ℕ) (first : List ℕ) (rest : List (List ℕ)) → NoneHas separator (first ∷ rest)
    → parts_between separator (join_with_byte separator (first ∷ rest)) ≡ first ∷ rest
parts_joined separator first [] none =
    let p : ℕ → Bool = λ x. x == separator in
    slice_split_none p first none.0
parts_joined separator first (next ∷ rest) none =
    let p : ℕ → Bool = λ x. x == separator in
    let is : p separator ≡ true = eq-eqb separator separator refl in
    slice_split_at p first separator (join_with_byte separator (next ∷ rest)) none.0 is
    ∙ ap (λ (parts : List (List ℕ)). first ∷ parts) (parts_joined separator next rest none.1)

-- what joins them has no other separator that they do not have
pub none_joined : (separator other : ℕ) → (other == separator) ≡ false → (parts : List (List ℕ)) → NoneHas separator parts → HasNo separator (join_with_byte other parts)
none_joined separator other apart [] none = All-nil _
none_joined separator other apart (part ∷ []) none = none.0
none_joined separator other apart (part ∷ next ∷ rest) none =
    let P : ℕ → Type 0 = λ b. (b == separator) ≡ false in
    All-append P part (other ∷ join_with_byte other (next ∷ rest)) none.0
    (All-cons P other (join_with_byte other (next ∷ rest)) apart (none_joined separator other apart (next ∷ rest) none.1))

-- a text that is cut twice has not two parts
pub cut_twice : {a b : List ℕ} (separator : ℕ) (bytes rest more : List ℕ) → parts_between separator bytes ≡ a ∷ parts_between separator rest
    → parts_between separator rest ≡ b ∷ parts_between separator more → length (parts_between separator bytes) ≢ 2
cut_twice separator bytes rest more first second two =
    let some = some_part separator more in
    omega (arith, ap (length {A = List ℕ}) first, ap (length {A = List ℕ}) second)
