-- A field that is read just as it is spelled, and how fields are put together.
use Rattle.std.proofs.Common.{◌≡◌, ℕ, ◌+◌, ◌≤◌, List, ◌++◌, length, Result, Ok, Err, sym, ap, subst, ◌∙◌}
use Rattle.std.specs.Prelude.{IfOk}
use Rattle.small_types.specs.Outcome.{◌>>=◌}
use Rattle.record_fields.specs.declared.fault.CodecFault.{CodecFault}
use Rattle.record_fields.specs.Places.{Stands}
use Rattle.record_fields.specs.Readers.{Gives}
use Rattle.record_fields.specs.Parts.{Reader}
use Rattle.record_fields.specs.Reads.{IsBytes, ReadsField}
use Rattle.record_fields.proofs.Fields.{Stands-then, Stands-first, Stands-second, bind_ok, ok_is}

-- the same values, said otherwise
pub same_values : {X : Type 0} {Is : X → Type 0} {text : X → List ℕ} {at : Reader X} (Other : X → Type 0) → ReadsField Is text at → ((x : X) → Is x → Other x) → ((x : X) → Other x → Is x) → ReadsField Other text at
same_values Other reads to from = record {
  takes = λ bytes place x fits within e. (let t = reads.takes bytes place x fits within e in (t.0, to x.0 t.1));
  again = λ bytes place x next is stands. reads.again bytes place x next (from x is) stands;
}

-- the last field of a value
pub last : {A X : Type 0} {IsA : A → Type 0} {text : A → List ℕ} {f : Reader A} → ReadsField IsA text f → (get : X → A) (made : A → X) → ((a : A) → get (made a) ≡ a)
    → ReadsField (λ x. IsA (get x) × (x ≡ made (get x))) (λ x. text (get x)) (λ bytes place. f bytes place >>= λ a. Ok (made a.0, a.1))
last {A} {X} {IsA} {text} {f} reads get made back = record {
  takes = λ bytes place x fits within e.
      let a = bind_ok (f bytes place) (λ a. Ok (made a.0, a.1)) x e in
      let t = reads.takes bytes place a.0 fits within a.1 in
      let whole : X × ℕ = (made a.0.0, a.0.1) in
      let same : get (made a.0.0) ≡ a.0.0 = back a.0.0 in
      subst (λ (y : X × ℕ). Stands bytes place (text (get y.0)) y.1 × (IsA (get y.0) × (y.0 ≡ made (get y.0)))) (ok_is whole x a.2)
      (subst (λ (b : A). Stands bytes place (text b) a.0.1) (sym same) t.0, (subst IsA (sym same) t.1, ap made (sym same)));
  again = λ bytes place x next is stands.
      ap (λ (r : Result (A × ℕ) CodecFault). (r >>= λ a. Ok (made a.0, a.1))) (reads.again bytes place (get x) next is.0 stands)
      ∙ ap (λ (y : X). Ok (y, next)) (sym is.1);
}

-- a field, and those behind it
pub first : {A X : Type 0} {IsA : A → Type 0} {text : A → List ℕ} {f : Reader A} → ReadsField IsA text f → (get : X → A) (IsRest : A → X → Type 0) (rest : X → List ℕ) (k : A → Reader X) → ((a : A) (x : X) → IsRest a x → get x ≡ a) → ((a : A) → ReadsField (IsRest a) rest (k a))
    → ReadsField (λ x. IsA (get x) × IsRest (get x) x) (λ x. text (get x) ++ rest x) (λ bytes place. f bytes place >>= λ a. k a.0 bytes a.1)
first {A} {X} {IsA} {text} {f} reads get IsRest rest k known behind = record {
  takes = λ bytes place x fits within e.
      let a = bind_ok (f bytes place) (λ a. k a.0 bytes a.1) x e in
      let t = reads.takes bytes place a.0 fits within a.1 in
      let u = (behind a.0.0).takes bytes a.0.1 x fits t.0.within a.2 in
      let same : get x.0 ≡ a.0.0 = known a.0.0 x.0 u.1 in (
        Stands-then bytes (text (get x.0)) (rest x.0) place a.0.1 x.1 (subst (λ (b : A). Stands bytes place (text b) a.0.1) (sym same) t.0) u.0,
        (subst IsA (sym same) t.1, subst (λ (b : A). IsRest b x.0) (sym same) u.1),
      );
  again = λ bytes place x next is stands.
      let one = reads.again bytes place (get x) (place + length (text (get x))) is.0 (Stands-first bytes (text (get x)) (rest x) place next stands) in
      ap (λ (r : Result (A × ℕ) CodecFault). (r >>= λ a. k a.0 bytes a.1)) one
      ∙ (behind (get x)).again bytes (place + length (text (get x))) x next is.1 (Stands-second bytes (text (get x)) (rest x) place next stands);
}

-- a call that gives what the reading gives: what it found stands there
pub found_there : {X : Type 0} {Is : X → Type 0} {text : X → List ℕ} {at : Reader X} → ReadsField Is text at → (bytes : List ℕ) (place : ℕ) (r : Result (X × ℕ) CodecFault) → IsBytes bytes → place ≤ length bytes → Gives r (at bytes place) → IfOk r (λ x. Stands bytes place (text x.0) x.1 × Is x.0)
found_there reads bytes place (Ok x) fits within given = reads.takes bytes place x fits within given
found_there reads bytes place (Err e) fits within given = tt

-- of values that are all within their limits
pub stands_there : {X : Type 0} {Is : X → Type 0} {text : X → List ℕ} {at : Reader X} → ReadsField Is text at → (bytes : List ℕ) (place : ℕ) (r : Result (X × ℕ) CodecFault) → IsBytes bytes → place ≤ length bytes → Gives r (at bytes place) → IfOk r (λ x. Stands bytes place (text x.0) x.1)
stands_there reads bytes place (Ok x) fits within given = let t = reads.takes bytes place x fits within given in t.0
stands_there reads bytes place (Err e) fits within given = tt

-- and what stands there it finds
pub only_there : {X : Type 0} {Is : X → Type 0} {text : X → List ℕ} {at : Reader X} → ReadsField Is text at → (bytes : List ℕ) (place : ℕ) (r : Result (X × ℕ) CodecFault) → Gives r (at bytes place) → (x : X) (next : ℕ) → Is x → Stands bytes place (text x) next → Gives r (Ok (x, next))
only_there {X} reads bytes place r given x next is stands = subst (λ (read : Result (X × ℕ) CodecFault). Gives r read) (reads.again bytes place x next is stands) given
