-- Rules are read just as they are spelled.
use Rattle.std.proofs.Common.{◌≡◌, ℕ, ◌+◌, ◌^◌, List, [], ◌∷◌, Result, Ok, ap, subst, ◌∙◌, arith}
use Rattle.std.specs.Int.{w64, to_be_bytes}
use Rattle.small_types.specs.Outcome.{◌>>=◌}
use Rattle.manifests.specs.declared.facts.Rule.{Rule}
use Rattle.manifests.specs.declared.facts.Rule.TheVariants.{Never, Before, Age}
use Rattle.record_fields.specs.declared.fault.CodecFault.{CodecFault}
use Rattle.record_fields.specs.declared.numbers.TheConstants.{AGE_RULE, BEFORE_RULE, NEVER_RULE}
use Rattle.record_fields.specs.Places.{Stands}
use Rattle.record_fields.specs.Readers.{number_at}
use Rattle.record_fields.specs.Parts.{age_at, byte_at, rule_of, rule_at}
use Rattle.record_fields.specs.Spelled.{rule_field}
use Rattle.record_fields.specs.Values.{IsEncodableRule}
use Rattle.record_fields.specs.Reads.{IsBytes, ReadsField}
use Rattle.record_fields.proofs.Fields.{Stands-then, Stands-first, Stands-second, bind_ok, ok_is, wide64, number_takes, number_again}
use Rattle.record_fields.proofs.Forms.{by_number, byte_reads}

-- a rule that stands behind its number
abbrev IsMade : List ℕ → ℕ → Rule × ℕ → Type 0
IsMade bytes place x = Stands bytes place (rule_field x.0) x.1 × IsEncodableRule x.0

age_made : (bytes : List ℕ) (place mid : ℕ) (x : Rule × ℕ) → age_at bytes mid ≡ Ok x → IsBytes bytes → Stands bytes place (AGE_RULE ∷ []) mid → IsMade bytes place x
unfolding rule_field age_at
age_made bytes place mid x e fits stands =
    let seconds = bind_ok (number_at w64 bytes mid) (λ seconds. Ok (Age seconds.0, seconds.1)) x e in
    let t = number_takes w64 (2 ^ 64) wide64 bytes mid seconds.0 fits stands.within seconds.1 in
    let whole : Rule × ℕ = (Age seconds.0.0, seconds.0.1) in
    subst (IsMade bytes place) (ok_is whole x seconds.2)
    (Stands-then bytes (AGE_RULE ∷ []) (to_be_bytes w64 seconds.0.0) place mid seconds.0.1 stands t.0, t.1)

never_made : (bytes : List ℕ) (place mid : ℕ) → Stands bytes place (NEVER_RULE ∷ []) mid → IsMade bytes place (Never, mid)
unfolding rule_field
never_made bytes place mid stands = (stands, tt)

before_made : (bytes : List ℕ) (place mid : ℕ) → Stands bytes place (BEFORE_RULE ∷ []) mid → IsMade bytes place (Before, mid)
unfolding rule_field
before_made bytes place mid stands = (stands, tt)

rule_made : (bytes : List ℕ) (place b mid : ℕ) (x : Rule × ℕ) → IsBytes bytes → rule_of place b bytes mid ≡ Ok x → Stands bytes place (b ∷ []) mid → IsMade bytes place x
rule_made bytes place b mid x fits =
    let P : ℕ → Type 0 = λ k. Stands bytes place (k ∷ []) mid → IsMade bytes place x in
    by_number NEVER_RULE b _ _ x P (λ e stands. subst (IsMade bytes place) (ok_is (Never, mid) x e) (never_made bytes place mid stands))
    (by_number BEFORE_RULE b _ _ x P (λ e stands. subst (IsMade bytes place) (ok_is (Before, mid) x e) (before_made bytes place mid stands))
    (by_number AGE_RULE b _ _ x P (λ e stands. age_made bytes place mid x e fits stands)
    (λ none. absurd cc)))

rule_again : (bytes : List ℕ) (place : ℕ) (x : Rule) (next : ℕ) → IsEncodableRule x → Stands bytes place (rule_field x) next → rule_at bytes place ≡ Ok (x, next)
unfolding rule_at rule_field age_at
rule_again bytes place Never next is stands = ap (λ (r : Result (ℕ × ℕ) CodecFault). (r >>= λ byte. rule_of place byte.0 bytes byte.1)) (byte_reads.again bytes place NEVER_RULE next (omega arith) stands)
rule_again bytes place Before next is stands = ap (λ (r : Result (ℕ × ℕ) CodecFault). (r >>= λ byte. rule_of place byte.0 bytes byte.1)) (byte_reads.again bytes place BEFORE_RULE next (omega arith) stands)
rule_again bytes place (Age seconds) next is stands =
    ap (λ (r : Result (ℕ × ℕ) CodecFault). (r >>= λ byte. rule_of place byte.0 bytes byte.1)) (byte_reads.again bytes place AGE_RULE (place + 1) (omega arith) (Stands-first bytes (AGE_RULE ∷ []) (to_be_bytes w64 seconds) place next stands))
    ∙ ap (λ (r : Result (ℕ × ℕ) CodecFault). (r >>= λ v. Ok (Age v.0, v.1))) (number_again w64 (2 ^ 64) wide64 bytes (place + 1) seconds next is (Stands-second bytes (AGE_RULE ∷ []) (to_be_bytes w64 seconds) place next stands))

pub rule_reads : ReadsField IsEncodableRule rule_field rule_at
unfolding rule_at
rule_reads = record {
  takes = λ bytes place x fits within e.
      let byte = bind_ok (byte_at bytes place) (λ byte. rule_of place byte.0 bytes byte.1) x e in
      let t = byte_reads.takes bytes place byte.0 fits within byte.1 in
      rule_made bytes place byte.0.0 byte.0.1 x fits byte.2 t.0;
  again = rule_again;
}
