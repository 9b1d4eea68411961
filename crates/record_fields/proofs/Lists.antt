-- Optional values and lists are read just as they are spelled.
use Rattle.std.proofs.Common.{◌≡◌, ℕ, zero, suc, ◌+◌, ◌^◌, ◌<◌, ◌≤◌, Bool, true, false, leb, List, [], ◌∷◌, length, Option, Some, None, Result, Ok, Err, cond, refl, ap, subst, ◌∙◌, arith}
use Rattle.std.specs.Prelude.{All, IfSome, flat_map}
use Rattle.std.specs.Int.{w32, to_be_bytes}
use Rattle.std.proofs.lemmas.Bool.{leb-true, le-leb}
use Rattle.std.proofs.lemmas.List.Elements.{All-cons, All-head, All-nil, All-tail}
use Rattle.small_types.specs.Outcome.{◌>>=◌}
use Rattle.record_fields.specs.declared.fault.CodecFault.{CodecFault}
use Rattle.record_fields.specs.declared.fault.CodecFault.TheVariants.{Bad}
use Rattle.record_fields.specs.declared.numbers.TheConstants.{TRUE_BYTE}
use Rattle.record_fields.specs.Places.{Stands}
use Rattle.record_fields.specs.Readers.{number_at}
use Rattle.record_fields.specs.Parts.{Reader, truth_at, option_of, option_at, items_at, list_of, list_at}
use Rattle.record_fields.specs.Values.{IsEncodableLength}
use Rattle.record_fields.specs.Spelled.{truth_field, option_field, list_field}
use Rattle.record_fields.specs.Reads.{IsBytes, ReadsField}
use Rattle.record_fields.proofs.Fields.{Stands-then, Stands-first, Stands-second, bind_ok, ok_is, wide32, number_takes, number_again}
use Rattle.record_fields.proofs.Forms.{truth_reads}
use Rattle.record_fields.proofs.Together.{same_values}

-- a test that did not fail, before a step
passed_step : {A : Type 0} (b : Bool) (d : CodecFault) (r : Result A CodecFault) (y : A) → cond b r (Err d) ≡ Ok y → (b ≡ true) × (r ≡ Ok y)
passed_step true d r y e = (refl, e)
passed_step false d r y e = absurd cc

module _ {X : Type 0} {Is : X → Type 0} {text : X → List ℕ} {at : Reader X} (reads : ReadsField Is text at) where
  -- ---- optional values

  option_made : (bytes : List ℕ) (place : ℕ) (b : Bool) (mid : ℕ) (x : Option X × ℕ) → IsBytes bytes → Stands bytes place (truth_field b) mid → option_of at b bytes mid ≡ Ok x → Stands bytes place (option_field text x.0) x.1 × IfSome x.0 Is
  option_made bytes place false mid x fits stands e =
      let whole : Option X × ℕ = (None, mid) in
      subst (λ (y : Option X × ℕ). Stands bytes place (option_field text y.0) y.1 × IfSome y.0 Is) (ok_is whole x e) (stands, tt)
  option_made bytes place true mid x fits stands e =
      let a = bind_ok (at bytes mid) (λ a. Ok (Some a.0, a.1)) x e in
      let t = reads.takes bytes mid a.0 fits stands.within a.1 in
      let whole : Option X × ℕ = (Some a.0.0, a.0.1) in
      subst (λ (y : Option X × ℕ). Stands bytes place (option_field text y.0) y.1 × IfSome y.0 Is) (ok_is whole x a.2)
      (Stands-then bytes (TRUE_BYTE ∷ []) (text a.0.0) place mid a.0.1 stands t.0, t.1)

  option_again : (bytes : List ℕ) (place : ℕ) (x : Option X) (next : ℕ) → IfSome x Is → Stands bytes place (option_field text x) next → option_at at bytes place ≡ Ok (x, next)
  unfolding option_at
  option_again bytes place None next is stands =
      ap (λ (r : Result (Bool × ℕ) CodecFault). (r >>= λ there. option_of at there.0 bytes there.1)) (truth_reads.again bytes place false next tt stands)
  option_again bytes place (Some x) next is stands =
      let there = truth_reads.again bytes place true (place + 1) tt (Stands-first bytes (TRUE_BYTE ∷ []) (text x) place next stands) in
      let value = reads.again bytes (place + 1) x next is (Stands-second bytes (TRUE_BYTE ∷ []) (text x) place next stands) in
      ap (λ (r : Result (Bool × ℕ) CodecFault). (r >>= λ there. option_of at there.0 bytes there.1)) there
      ∙ ap (λ (r : Result (X × ℕ) CodecFault). (r >>= λ a. Ok (Some a.0, a.1))) value

  pub option_reads : ReadsField (λ (x : Option X). IfSome x Is) (option_field text) (option_at at)
  unfolding option_at
  option_reads = record {
    takes = λ bytes place x fits within e.
        let there = bind_ok (truth_at bytes place) (λ there. option_of at there.0 bytes there.1) x e in
        let t = truth_reads.takes bytes place there.0 fits within there.1 in
        option_made bytes place there.0.0 there.0.1 x fits t.0 there.2;
    again = option_again;
  }

  -- ---- items

  abbrev AreItems : List ℕ → ℕ → ℕ → List X × ℕ → Type 0
  AreItems bytes place count x = Stands bytes place (flat_map text x.0) x.1 × (All Is x.0 × (length x.0 ≡ count))

  items_takes : (count : ℕ) (bytes : List ℕ) (place : ℕ) (x : List X × ℕ) → IsBytes bytes → place ≤ length bytes → items_at at count bytes place ≡ Ok x → AreItems bytes place count x
  unfolding items_at
  items_takes zero bytes place x fits within e =
      let whole : List X × ℕ = ([], place) in
      subst (AreItems bytes place 0) (ok_is whole x e) (record { behind = omega arith; within = within; parts = refl }, (All-nil Is, refl))
  items_takes (suc count) bytes place x fits within e =
      let a = bind_ok (at bytes place) (λ a. items_at at count bytes a.1 >>= λ rest. Ok (a.0 ∷ rest.0, rest.1)) x e in
      let rest = bind_ok (items_at at count bytes a.0.1) (λ rest. Ok (a.0.0 ∷ rest.0, rest.1)) x a.2 in
      let t = reads.takes bytes place a.0 fits within a.1 in
      let u = items_takes count bytes a.0.1 rest.0 fits t.0.within rest.1 in
      let whole : List X × ℕ = (a.0.0 ∷ rest.0.0, rest.0.1) in
      let long : length (a.0.0 ∷ rest.0.0) ≡ suc count = ap suc u.1.1 in
      subst (AreItems bytes place (suc count)) (ok_is whole x rest.2)
      (Stands-then bytes (text a.0.0) (flat_map text rest.0.0) place a.0.1 rest.0.1 t.0 u.0, (All-cons Is a.0.0 rest.0.0 t.1 u.1.0, long))

  items_again : (xs : List X) (bytes : List ℕ) (place next : ℕ) → All Is xs → Stands bytes place (flat_map text xs) next → items_at at (length xs) bytes place ≡ Ok (xs, next)
  unfolding items_at
  items_again [] bytes place next all stands =
      let end : place ≡ next = (let e = stands.behind in omega arith) in
      ap (λ (n : ℕ). Ok ([], n)) end
  items_again (x ∷ xs) bytes place next all stands =
      let one = reads.again bytes place x (place + length (text x)) (All-head Is x xs all) (Stands-first bytes (text x) (flat_map text xs) place next stands) in
      let more = items_again xs bytes (place + length (text x)) next (All-tail Is x xs all) (Stands-second bytes (text x) (flat_map text xs) place next stands) in
      ap (λ (r : Result (X × ℕ) CodecFault). (r >>= λ a. items_at at (length xs) bytes a.1 >>= λ rest. Ok (a.0 ∷ rest.0, rest.1))) one
      ∙ ap (λ (r : Result (List X × ℕ) CodecFault). (r >>= λ rest. Ok (x ∷ rest.0, rest.1))) more

  -- ---- lists

  module _ (limit : ℕ) where
    list_takes : (bytes : List ℕ) (place : ℕ) (x : List X × ℕ) → IsBytes bytes → place ≤ length bytes → list_at limit at bytes place ≡ Ok x → Stands bytes place (list_field text x.0) x.1 × (IsEncodableLength limit x.0 × All Is x.0)
    unfolding list_at list_field
    list_takes bytes place x fits within e =
        let count = bind_ok (number_at w32 bytes place) (λ count. list_of limit at place count.0 bytes count.1) x e in
        let n = number_takes w32 (2 ^ 32) wide32 bytes place count.0 fits within count.1 in
        let g = passed_step (leb count.0.0 limit) (Bad place) (items_at at count.0.0 bytes count.0.1) x count.2 in
        let most : count.0.0 ≤ limit = leb-true _ _ g.0 in
        let t = items_takes count.0.0 bytes count.0.1 x fits n.0.within g.1 in
        let number : Stands bytes place (to_be_bytes w32 (length x.0)) count.0.1 = rw t.1.1 n.0 in
        let few : length x.0 ≤ limit = rw t.1.1 most in
        let counted : length x.0 < 2 ^ 32 = rw t.1.1 n.1 in
        (Stands-then bytes (to_be_bytes w32 (length x.0)) (flat_map text x.0) place count.0.1 x.1 number t.0, ((few, counted), t.1.0))

    list_again : (bytes : List ℕ) (place : ℕ) (xs : List X) (next : ℕ) → IsEncodableLength limit xs × All Is xs → Stands bytes place (list_field text xs) next → list_at limit at bytes place ≡ Ok (xs, next)
    unfolding list_at list_field
    list_again bytes place xs next is stands =
        let few = is.0.0 in
        let count = to_be_bytes w32 (length xs) in
        let first = number_again w32 (2 ^ 32) wide32 bytes place (length xs) (place + length count) is.0.1 (Stands-first bytes count (flat_map text xs) place next stands) in
        let passes : leb (length xs) limit ≡ true = le-leb (length xs) limit few in
        let second = items_again xs bytes (place + length count) next is.1 (Stands-second bytes count (flat_map text xs) place next stands) in
        ap (λ (r : Result (ℕ × ℕ) CodecFault). (r >>= λ count. list_of limit at place count.0 bytes count.1)) first
        ∙ rw passes second

    pub any_list_reads : ReadsField (λ (xs : List X). IsEncodableLength limit xs × All Is xs) (list_field text) (list_at limit at)
    any_list_reads = record { takes = list_takes; again = list_again }

    pub list_reads : limit < 2 ^ 32 → ReadsField (λ (xs : List X). (length xs ≤ limit) × All Is xs) (list_field text) (list_at limit at)
    list_reads small =
        same_values (λ (xs : List X). (length xs ≤ limit) × All Is xs) any_list_reads
        (λ xs is. (is.0.0, is.1)) (λ xs is. (let few = is.0 in ((is.0, omega arith), is.1)))
