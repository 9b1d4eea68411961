-- What bytes are judged to be: tables, what is none, or no encoding.
use Rattle.std.proofs.Common.{◌≡◌, ◌∙◌, List, ℕ, length, Result, Ok, Err, refl, sym, ap, subst, arith}
use Rattle.std.specs.Prelude.{IfErr, IfOk, OnOk}
use Rattle.store_state.specs.Kept.{AreTables}
use Rattle.store_state.specs.Tables.{Tables}
use Rattle.record_fields.specs.declared.fault.CodecFault.{CodecFault}
use Rattle.record_fields.specs.declared.fault.CodecFault.TheVariants.{Bad, Memory}
use Rattle.record_fields.specs.Readers.{Fails, Gives, IsFaultWithin}
use Rattle.table_codec.specs.Readers.{IsRefused, Judges, tables_of}
use Rattle.table_codec.specs.Spelled.{state_text}
use Rattle.table_codec.specs.Values.{IsEncodableState}
use Rattle.table_codec.proofs.Whole.{all_again}

module _ (bytes : List ℕ) where
  abbrev pub Judged : Result Tables CodecFault → Type 0
  Judged result = Judges bytes (tables_of bytes) result

  pub tables_judged : (t state : Tables) → tables_of bytes ≡ Ok t → state ≡ t → AreTables t
      → Judged (Ok state)
  tables_judged t state read same are =
      subst (λ (r : Result Tables CodecFault). Judges bytes r (Ok state)) (sym read)
      (λ there. ap Ok (sym same), λ none. absurd (none are))

  pub none_judged : (t : Tables) → tables_of bytes ≡ Ok t → ¬ AreTables t
      → Judged (Err (Bad (length bytes)))
  none_judged t read none =
      subst (λ (r : Result Tables CodecFault). Judges bytes r (Err (Bad (length bytes)))) (sym read)
      (λ are. absurd (none are), λ still. refl)

  pub memory_judged : (r : Result Tables CodecFault) → Judges bytes r (Err Memory)
  memory_judged (Ok t) = (λ are. tt, λ none. tt)
  memory_judged (Err fault) = tt

  pub fault_judged : (fault : CodecFault) → Fails fault (tables_of bytes) → Judged (Err fault)
  fault_judged Memory fails = memory_judged (tables_of bytes)
  fault_judged (Bad place) fails =
      subst (λ (r : Result Tables CodecFault). Judges bytes r (Err (Bad place))) (sym fails) refl

  pub only_judged : (result : Result Tables CodecFault) → Judged result → (t : Tables)
      → IsEncodableState t → AreTables t → bytes ≡ state_text t → Gives result (Ok t)
  only_judged result judged t fits are is =
      let read : tables_of bytes ≡ Ok t = ap tables_of is ∙ all_again t fits in
      (subst (λ (r : Result Tables CodecFault). Judges bytes r result) read judged).0 are

  -- what is made of the values that were read
  module _ (t : Tables) (read : tables_of bytes ≡ Ok t) where
    pub made_judged : (end : ℕ) (result : Result Tables CodecFault) → end ≡ length bytes
        → IfOk result (λ state. state ≡ t) → OnOk result (AreTables t)
        → IfErr result (IsRefused end t) → Judged result
    made_judged end (Ok state) at same are refused = tables_judged t state read same are
    made_judged end (Err Memory) at same are refused = memory_judged (tables_of bytes)
    made_judged end (Err (Bad place)) at same are refused =
        subst (λ (n : ℕ). Judged (Err (Bad n))) (sym (refused.0 ∙ at)) (none_judged t read refused.1)

    pub made_within : (end : ℕ) (result : Result Tables CodecFault) → end ≡ length bytes
        → IfErr result (IsRefused end t) → IfErr result (IsFaultWithin (length bytes))
    made_within end (Ok state) at refused = tt
    made_within end (Err Memory) at refused = tt
    made_within end (Err (Bad place)) at refused = omega (arith, refused.0, at)

    pub made_found : (result : Result Tables CodecFault) → IfOk result (λ state. state ≡ t)
        → OnOk result (AreTables t) → IsEncodableState t → bytes ≡ state_text t
        → IfOk result (λ state. IsEncodableState state × AreTables state
        × (bytes ≡ state_text state))
    made_found (Ok state) same are fits text =
        subst (λ (s : Tables). IsEncodableState s × AreTables s × (bytes ≡ state_text s)) (sym same)
        (fits, are, text)
    made_found (Err fault) same are fits text = tt
