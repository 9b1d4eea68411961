-- All of the bytes are the tables' just where these are spelled so.
use Rattle.std.proofs.Common.{◌≡◌, ℕ, cond, eqb, List, [], ◌∷◌, ◌++◌, length, drop, Result, Ok, Err, refl, sym, ap, subst, ◌∙◌, arith}
use Rattle.std.specs.Prelude.{IfOk}
use Rattle.std.proofs.lemmas.Bool.{eqb-true, eq-eqb}
use Rattle.std.proofs.lemmas.List.{append-nil}
use Rattle.store_state.specs.Tables.{Tables}
use Rattle.record_fields.specs.declared.fault.CodecFault.{CodecFault}
use Rattle.record_fields.specs.declared.fault.CodecFault.TheVariants.{Bad}
use Rattle.record_fields.specs.Places.{Stands}
use Rattle.record_fields.specs.Readers.{Gives}
use Rattle.record_fields.specs.Reads.{IsBytes}
use Rattle.record_fields.proofs.Fields.{bind_ok, ok_is, passed_test}
use Rattle.table_codec.specs.Readers.{tables_at, tables_of}
use Rattle.table_codec.specs.Spelled.{state_text}
use Rattle.table_codec.specs.Values.{IsEncodableState}
use Rattle.table_codec.proofs.Tables.{tables_reads}

nothing_behind : (bytes : List ℕ) → drop (length bytes) bytes ≡ []
nothing_behind [] = refl
nothing_behind (b ∷ bytes) = nothing_behind bytes

pub all_takes : (bytes : List ℕ) (t : Tables) → IsBytes bytes → tables_of bytes ≡ Ok t
    → IsEncodableState t × (bytes ≡ state_text t)
unfolding tables_of
all_takes bytes t fits e =
    let tables = bind_ok (tables_at bytes 0) (λ tables.
    cond (eqb tables.1 (length bytes)) (Ok tables.0) (Err (Bad tables.1))) t e in
    let g = passed_test (eqb tables.0.1 (length bytes)) (Bad tables.0.1) tables.0.0 t tables.2 in
    let u = tables_reads.takes bytes 0 tables.0 fits (omega arith) tables.1 in
    let end : tables.0.1 ≡ length bytes = eqb-true tables.0.1 (length bytes) g.0 in
    let nothing : drop tables.0.1 bytes ≡ [] = rw end (nothing_behind bytes) in
    let whole : bytes ≡ state_text tables.0.0 = u.0.parts ∙ ap (λ (r : List ℕ). state_text tables.0.0 ++ r) nothing ∙ append-nil (state_text tables.0.0) in
    subst (λ (d : Tables). IsEncodableState d × (bytes ≡ state_text d)) g.1 (u.1, whole)

whole_stands : (field : List ℕ) → Stands field 0 field (length field)
whole_stands field = record {
  behind = omega arith;
  within = omega arith;
  parts = sym (ap (λ (r : List ℕ). field ++ r) (nothing_behind field) ∙ append-nil field);
}

pub all_again : (t : Tables) → IsEncodableState t → tables_of (state_text t) ≡ Ok t
unfolding tables_of
all_again t fits =
    let text = state_text t in
    let at = tables_reads.again text 0 t (length text) fits (whole_stands text) in
    rw (at, eq-eqb (length text) (length text) refl) refl

-- different tables have different encodings
pub state_text_injective : (t u : Tables) → IsEncodableState t → IsEncodableState u
    → state_text t ≡ state_text u → t ≡ u
state_text_injective t u first second same =
    ok_is t u (sym (all_again t first) ∙ ap tables_of same ∙ all_again u second)

pub found : (bytes : List ℕ) (r : Result Tables CodecFault) → IsBytes bytes
    → Gives r (tables_of bytes) → IfOk r (λ t. IsEncodableState t × (bytes ≡ state_text t))
found bytes (Ok t) fits given = all_takes bytes t fits given
found bytes (Err e) fits given = tt

pub only : (bytes : List ℕ) (r : Result Tables CodecFault) → Gives r (tables_of bytes)
    → (t : Tables) → IsEncodableState t → bytes ≡ state_text t → Gives r (Ok t)
only bytes r given t fits is =
    subst (λ (read : Result Tables CodecFault). Gives r read) (ap tables_of is ∙ all_again t fits)
    given
