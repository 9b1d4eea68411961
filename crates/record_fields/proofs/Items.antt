-- Items that are read one behind another.
use Rattle.std.proofs.Common.{◌≡◌, ℕ, zero, suc, ◌-◌, ◌<◌, ◌≤◌, List, [], ◌∷◌, ◌++◌, length, Result, Ok, Err, refl, sym, ap, ◌∙◌, append_assoc, arith}
use Rattle.std.proofs.lemmas.List.{append-nil}
use Rattle.small_types.specs.Outcome.{◌>>=◌}
use Rattle.record_fields.specs.declared.fault.CodecFault.{CodecFault}
use Rattle.record_fields.specs.declared.fault.CodecFault.TheVariants.{Bad, Memory}
use Rattle.record_fields.specs.Readers.{Fails}
use Rattle.record_fields.specs.Parts.{Reader, items_at}

-- the items that were made, before those that are left
abbrev pub behind_made : {X : Type 0} → List X → List X × ℕ → Result (List X × ℕ) CodecFault
behind_made made rest = Ok (made ++ rest.0, rest.1)

-- what is still to be read, with what was made before it, is all of it
pub record IsLeft {X : Type 0} (item : Reader X) (bytes : List ℕ) (place count : ℕ) (made : List X) (next left : ℕ) : Type 0 where
  pub same : items_at item count bytes place ≡ (items_at item left bytes next >>= behind_made made)
  pub within : next ≤ length bytes

module _ {X : Type 0} (item : Reader X) (bytes : List ℕ) (place count : ℕ) where
  nothing_made : (r : Result (List X × ℕ) CodecFault) → r ≡ (r >>= behind_made [])
  nothing_made (Ok x) = refl
  nothing_made (Err e) = refl

  pub none_made : place ≤ length bytes → IsLeft item bytes place count [] place count
  none_made within = record { same = nothing_made (items_at item count bytes place); within = within }

  regrouped : (made : List X) (x : X) (r : Result (List X × ℕ) CodecFault) → ((r >>= λ rest. Ok (x ∷ rest.0, rest.1)) >>= behind_made made) ≡ (r >>= behind_made (made ++ (x ∷ [])))
  regrouped made x (Ok rest) = ap (λ (xs : List X). Ok (xs, rest.1)) (sym (append_assoc made (x ∷ []) rest.0))
  regrouped made x (Err e) = refl

  one_step : (made : List X) (next left : ℕ) (x : X) (behind : ℕ) → item bytes next ≡ Ok (x, behind) → (items_at item (suc left) bytes next >>= behind_made made) ≡ (items_at item left bytes behind >>= behind_made (made ++ (x ∷ [])))
  unfolding items_at
  one_step made next left x behind is =
      ap (λ (r : Result (X × ℕ) CodecFault). ((r >>= λ first. items_at item left bytes first.1 >>= λ rest. Ok (first.0 ∷ rest.0, rest.1)) >>= behind_made made)) is
      ∙ regrouped made x (items_at item left bytes behind)

  pub one_made : (made : List X) (next left : ℕ) (x : X) (behind : ℕ) → IsLeft item bytes place count made next left → 0 < left → item bytes next ≡ Ok (x, behind) → behind ≤ length bytes → IsLeft item bytes place count (made ++ (x ∷ [])) behind (left - 1)
  one_made made next zero x behind before some is within = absurd (omega arith)
  one_made made next (suc left) x behind before some is within =
      let less : suc left - 1 ≡ left = omega arith in
      record { same = rw less (before.same ∙ one_step made next left x behind is); within = within }

  no_more : (made : List X) (next : ℕ) → (items_at item 0 bytes next >>= behind_made made) ≡ Ok (made, next)
  unfolding items_at
  no_more made next = ap (λ (xs : List X). Ok (xs, next)) (append-nil made)

  all_made : (made : List X) (next left : ℕ) → IsLeft item bytes place count made next left → left ≤ 0 → items_at item count bytes place ≡ Ok (made, next)
  all_made made next left before none =
      let end : left ≡ 0 = omega arith in
      before.same ∙ ap (λ (n : ℕ). (items_at item n bytes next >>= behind_made made)) end ∙ no_more made next

  pub all_given : (made list : List X) (next left : ℕ) → IsLeft item bytes place count made next left → left ≤ 0 → list ≡ made → items_at item count bytes place ≡ Ok (list, next)
  all_given made list next left before none same =
      all_made made next left before none ∙ ap (λ (xs : List X). Ok (xs, next)) (sym same)

  failed_step : (made : List X) (next left : ℕ) (e : CodecFault) → item bytes next ≡ Err e → (items_at item (suc left) bytes next >>= behind_made made) ≡ Err e
  unfolding items_at
  failed_step made next left e is = ap (λ (r : Result (X × ℕ) CodecFault). ((r >>= λ first. items_at item left bytes first.1 >>= λ rest. Ok (first.0 ∷ rest.0, rest.1)) >>= behind_made made)) is

  pub item_fails : (made : List X) (next left : ℕ) (e : CodecFault) → IsLeft item bytes place count made next left → 0 < left → Fails e (item bytes next) → Fails e (items_at item count bytes place)
  item_fails made next zero e before some fails = absurd (omega arith)
  item_fails made next (suc left) Memory before some fails = tt
  item_fails made next (suc left) (Bad at) before some fails = before.same ∙ failed_step made next left (Bad at) fails
