-- The bytes of whole files stay while slots change.
use Rattle.std.proofs.Common.{◌≡◌, ◌⊎◌, ℕ, ◌<◌, ◌≤◌, true, List, length, set, sym, ◌∙◌, ap, subst, arith, inl, inr}
use Rattle.std.proofs.lemmas.Bool.{cases_eq, cases_lt}
use Rattle.std.proofs.lemmas.List.{length-set}
use Rattle.machine.specs.Views.{ContentKey}
use Rattle.jobs.specs.Slots.{is_fresh, no_slot, slot_at, with_held}
use Rattle.jobs.specs.WholeFiles.{HasFile, WholeFilesCome, WholeFilesStay}
use Rattle.jobs.specs.declared.held.Held.{Held}
use Rattle.jobs.specs.declared.held.Held.TheVariants.{Nothing, Whole}
use Rattle.jobs.specs.declared.held.Slot.{Slot}
use Rattle.jobs.proofs.LetGoAll.{slot_at_other, slot_at_set}

whole_not_fresh : {P : Type 0} (held : Held) (blocks : List ℕ) → held ≡ Whole blocks → is_fresh held ≡ true → P
whole_not_fresh held blocks is fresh = absurd (let not : is_fresh (Whole blocks) ≡ true = ap is_fresh (sym is) ∙ fresh in cc)

whole_not_nothing : {P : Type 0} (held : Held) (blocks : List ℕ) → held ≡ Whole blocks → held ≡ Nothing → P
whole_not_nothing held blocks is none = absurd (let both = sym is ∙ none in cc)

pub whole_stay : WholeFilesStay
whole_stay base image old new has kept fresh fit at blocks low is = by (cases_lt at (length old)) (cases_lt 0 (slot_at new at).users)
  where
    by : (at < length old) ⊎ (length old ≤ at) → (0 < (slot_at new at).users) ⊎ ((slot_at new at).users ≤ 0) → HasFile base image (slot_at new at).key blocks
    by (inl there) (inl some) =
        let same = kept at there some in
        subst (λ (key : ContentKey). HasFile base image key blocks) (sym same.key) (has at blocks there (sym same.held ∙ is))
    by (inr past) some = whole_not_fresh (slot_at new at).held blocks is (fresh at past)
    by (inl there) (inr none) = whole_not_nothing (slot_at new at).held blocks is ((fit at no_slot low).idle (omega arith))

pub whole_come : WholeFilesCome
whole_come base image old at held low has given k blocks there is = by (cases_eq k at)
  where
    by : (k ≡ at) ⊎ (k ≡ at → ⊥) → HasFile base image (slot_at (set old at (with_held (slot_at old at) held)) k).key blocks
    by (inl this) =
        let here : slot_at (set old at (with_held (slot_at old at) held)) k ≡ with_held (slot_at old at) held =
        ap (λ (n : ℕ). slot_at (set old at (with_held (slot_at old at) held)) n) this ∙ slot_at_set old at (with_held (slot_at old at) held) low in
        subst (λ (key : ContentKey). HasFile base image key blocks) (sym (ap (λ (s : Slot). s.key) here)) (given blocks (sym (ap (λ (s : Slot). s.held) here) ∙ is))
    by (inr other) =
        let same : slot_at (set old at (with_held (slot_at old at) held)) k ≡ slot_at old k = slot_at_other old at k (with_held (slot_at old at) held) other in
        subst (λ (key : ContentKey). HasFile base image key blocks) (sym (ap (λ (s : Slot). s.key) same))
        (has k blocks (omega (arith, length-set old at (with_held (slot_at old at) held))) (sym (ap (λ (s : Slot). s.held) same) ∙ is))
