-- Slashes are turned part by part.
use Rattle.std.proofs.Common.{◌≡◌, ◌≢◌, ℕ, suc, ◌<◌, List, [], ◌∷◌, ◌++◌, length, get_or, refl, sym, ap, ap₂, ◌∙◌, arith, append_assoc}
use Rattle.std.specs.Prelude.{◌==◌, if◌then◌else◌}
use Rattle.std.proofs.lemmas.Bool.{ne_eqb}
use Rattle.std.proofs.lemmas.List.{length-append}
use Rattle.manifest_writer.specs.Applications.{backslashed}

-- a part without slashes stays
pub kept : (part : List ℕ) → ((i : ℕ) → i < length part → get_or part i 0 ≢ 47) → backslashed part ≡ part
unfolding backslashed
kept [] none = refl
kept (b ∷ bs) none =
    ap₂ (λ (x : ℕ) (xs : List ℕ). x ∷ xs) (rw (ne_eqb b 47 (none 0 (omega arith))) refl) (kept bs (λ i lt. none (suc i) (omega arith)))

turned_behind : (part others : List ℕ) → backslashed (part ++ others) ≡ backslashed part ++ backslashed others
unfolding backslashed
turned_behind [] others = refl
turned_behind (b ∷ bs) others = ap (λ (xs : List ℕ). (if b == 47 then 92 else b) ∷ xs) (turned_behind bs others)

turned_first : (others : List ℕ) → backslashed (47 ∷ others) ≡ 92 ∷ backslashed others
unfolding backslashed
turned_first others = refl

-- one part, and a slash behind it
pub part_turned : (made made₁ made₂ rest part others whole : List ℕ) → made ++ backslashed rest ≡ whole → rest ≡ part ++ (47 ∷ others) → ((i : ℕ) → i < length part → get_or part i 0 ≢ 47)
    → made₁ ≡ made ++ part → made₂ ≡ made₁ ++ (92 ∷ []) → made₂ ++ backslashed others ≡ whole
part_turned made made₁ made₂ rest part others whole so_far cut none first second =
    ap (λ (xs : List ℕ). xs ++ backslashed others) (second ∙ ap (λ (xs : List ℕ). xs ++ (92 ∷ [])) first)
    ∙ append_assoc (made ++ part) (92 ∷ []) (backslashed others)
    ∙ append_assoc made part (92 ∷ backslashed others)
    ∙ ap (λ (xs : List ℕ). made ++ xs) (ap₂ (λ (xs ys : List ℕ). xs ++ ys) (sym (kept part none)) (sym (turned_first others)) ∙ sym (turned_behind part (47 ∷ others)) ∙ ap backslashed (sym cut))
    ∙ so_far

pub shorter : (rest part others : List ℕ) → rest ≡ part ++ (47 ∷ others) → length others < length rest
shorter rest part others cut = omega (arith, ap length cut, length-append part (47 ∷ others))

-- the last part
pub last_turned : (made made₁ rest whole : List ℕ) → made ++ backslashed rest ≡ whole → ((i : ℕ) → i < length rest → get_or rest i 0 ≢ 47) → made₁ ≡ made ++ rest → made₁ ≡ whole
last_turned made made₁ rest whole so_far none is = is ∙ ap (λ (xs : List ℕ). made ++ xs) (sym (kept rest none)) ∙ so_far
