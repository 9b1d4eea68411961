-- Bytes and truth values are read just as they are spelled.
use Rattle.std.proofs.Common.{◌≡◌, ℕ, zero, suc, ◌+◌, ◌<◌, Bool, true, false, cond, eqb, ltb, List, [], ◌∷◌, length, get_or, drop, Result, Ok, refl, sym, ap, subst, ◌∙◌, arith, inl, inr}
use Rattle.std.proofs.lemmas.Bool.{cases_Bool, eqb-true, ltb-true, lt-ltb}
use Rattle.small_types.specs.Outcome.{◌>>=◌}
use Rattle.record_fields.specs.declared.fault.CodecFault.{CodecFault}
use Rattle.record_fields.specs.declared.fault.CodecFault.TheVariants.{Bad}
use Rattle.record_fields.specs.declared.numbers.TheConstants.{FALSE_BYTE, TRUE_BYTE}
use Rattle.record_fields.specs.Places.{Stands}
use Rattle.record_fields.specs.Parts.{byte_at, truth_of, truth_at}
use Rattle.record_fields.specs.Spelled.{truth_field}
use Rattle.record_fields.specs.Reads.{ReadsField}
use Rattle.record_fields.proofs.Fields.{bind_ok, ok_is, passed_test}

-- ---- a byte

byte_behind : (bytes : List ℕ) (place : ℕ) → place < length bytes → drop place bytes ≡ get_or bytes place 0 ∷ drop (suc place) bytes
byte_behind [] place within = absurd (omega arith)
byte_behind (b ∷ bytes) zero within = refl
byte_behind (b ∷ bytes) (suc place) within = byte_behind bytes place (omega arith)

byte_parts : (bytes : List ℕ) (place : ℕ) → place < length bytes → drop place bytes ≡ get_or bytes place 0 ∷ drop (place + 1) bytes
byte_parts bytes place within =
    let next : suc place ≡ place + 1 = omega arith in
    byte_behind bytes place within ∙ ap (λ (n : ℕ). get_or bytes place 0 ∷ drop n bytes) next

pub byte_reads : ReadsField (λ b. b < 256) (λ b. b ∷ []) byte_at
unfolding byte_at
byte_reads = record {
  takes = λ bytes place x fits within e.
      let g = passed_test (ltb place (length bytes)) (Bad place) (get_or bytes place 0, place + 1) x e in
      let inside : place < length bytes = ltb-true _ _ g.0 in
      let whole : ℕ × ℕ = (get_or bytes place 0, place + 1) in
      subst (λ (y : ℕ × ℕ). Stands bytes place (y.0 ∷ []) y.1 × (y.0 < 256)) g.1
      (record { behind = refl; within = omega arith; parts = byte_parts bytes place inside }, fits place);
  again = λ bytes place b next is stands.
      let inside : place < length bytes = (let w = stands.within in let n = stands.behind in omega arith) in
      let same : get_or bytes place 0 ∷ drop (place + 1) bytes ≡ b ∷ drop next bytes = sym (byte_parts bytes place inside) ∙ stands.parts in
      let byte : get_or bytes place 0 ≡ b = cc in
      rw (lt-ltb place (length bytes) inside, byte, stands.behind) refl;
}

-- ---- truth values

-- what is read of a number, and what of any other
pub by_number : {A : Type 0} (n byte : ℕ) (this others : Result A CodecFault) (x : A) (P : ℕ → Type 0)
    → (this ≡ Ok x → P n) → (others ≡ Ok x → P byte)
    → cond (eqb byte n) this others ≡ Ok x → P byte
by_number n byte this others x P here behind e =
    elim (cases_Bool (eqb byte n)) [
      | inl same ↦
          let is : n ≡ byte = sym (eqb-true byte n same) in
          let read : this ≡ Ok x = rw same at e in
          subst P is (here read)
      | inr differs ↦ behind (rw differs at e)
    ]

truth_made : (bytes : List ℕ) (place b mid : ℕ) (x : Bool × ℕ) → truth_of place b mid ≡ Ok x → Stands bytes place (b ∷ []) mid → Stands bytes place (truth_field x.0) x.1
truth_made bytes place b mid x =
    let P : ℕ → Type 0 = λ k. Stands bytes place (k ∷ []) mid → Stands bytes place (truth_field x.0) x.1 in
    by_number FALSE_BYTE b _ _ x P (λ e stands. subst (λ (y : Bool × ℕ). Stands bytes place (truth_field y.0) y.1) (ok_is (false, mid) x e) stands)
    (by_number TRUE_BYTE b _ _ x P (λ e stands. subst (λ (y : Bool × ℕ). Stands bytes place (truth_field y.0) y.1) (ok_is (true, mid) x e) stands)
    (λ none. absurd cc))

truth_again : (bytes : List ℕ) (place : ℕ) (x : Bool) (next : ℕ) → Stands bytes place (truth_field x) next → truth_at bytes place ≡ Ok (x, next)
unfolding truth_at
truth_again bytes place false next stands = ap (λ (r : Result (ℕ × ℕ) CodecFault). (r >>= λ byte. truth_of place byte.0 byte.1)) (byte_reads.again bytes place FALSE_BYTE next (omega arith) stands)
truth_again bytes place true next stands = ap (λ (r : Result (ℕ × ℕ) CodecFault). (r >>= λ byte. truth_of place byte.0 byte.1)) (byte_reads.again bytes place TRUE_BYTE next (omega arith) stands)

pub truth_reads : ReadsField (λ x. Unit {0}) truth_field truth_at
unfolding truth_at
truth_reads = record {
  takes = λ bytes place x fits within e.
      let byte = bind_ok (byte_at bytes place) (λ byte. truth_of place byte.0 byte.1) x e in
      let t = byte_reads.takes bytes place byte.0 fits within byte.1 in
      (truth_made bytes place byte.0.0 byte.0.1 x byte.2 t.0, tt);
  again = λ bytes place x next is stands. truth_again bytes place x next stands;
}
