-- Bytes and names are read just as they are spelled.
use Rattle.std.proofs.Common.{◌≡◌, ℕ, ◌+◌, ◌-◌, ◌^◌, ◌<◌, ◌≤◌, true, eqb, ◌&&◌, List, ◌++◌, length, take, drop, Result, Ok, refl, ap, subst, ◌∙◌, arith}
use Rattle.std.specs.Prelude.{nat_le, nat_lt}
use Rattle.std.specs.Int.{w32, to_be_bytes}
use Rattle.std.specs.List.{list_all}
use Rattle.std.specs.Str.{is_utf8}
use Rattle.std.proofs.lemmas.Bool.{leb-true, le-leb, and_parts, eqb-true, eq-eqb}
use Rattle.std.proofs.lemmas.List.{take_at, length-take, length-drop}
use Rattle.small_types.specs.declared.limits.TheConstants.{NAME_LIMIT}
use Rattle.small_types.specs.Name.{is_name, is_name_byte, is_name_part, name_parts, IsName}
use Rattle.small_types.specs.Outcome.{◌>>=◌}
use Rattle.record_fields.specs.declared.fault.CodecFault.{CodecFault}
use Rattle.record_fields.specs.declared.fault.CodecFault.TheVariants.{Bad}
use Rattle.record_fields.specs.Fields.{text_field}
use Rattle.record_fields.specs.Places.{Stands}
use Rattle.record_fields.specs.Readers.{number_at}
use Rattle.record_fields.specs.Values.{IsEncodableLength}
use Rattle.record_fields.specs.Parts.{span_of, span_at, part_of, bytes_at, name_of, name_at, value_of, value_at}
use Rattle.record_fields.specs.Reads.{ReadsField}
use Rattle.record_fields.proofs.Fields.{Stands-then, Stands-first, Stands-second, bind_ok, ok_is, passed_test, split, wide32, number_takes, number_again}
use Rattle.record_fields.proofs.Together.{same_values}

-- ---- bytes

-- the bytes of a span, which are so many and at most the limit
record IsSpan (limit : ℕ) (bytes : List ℕ) (start size : ℕ) (x : ℕ × ℕ) : Type 0 where
  stands : Stands bytes start (part_of bytes x.0 x.1) x.1
  most : length (part_of bytes x.0 x.1) ≤ limit
  long : length (part_of bytes x.0 x.1) ≡ size

span_takes : (limit : ℕ) (bytes : List ℕ) (place size start : ℕ) (x : ℕ × ℕ) → start ≤ length bytes → span_of limit bytes place size start ≡ Ok x → IsSpan limit bytes start size x
span_takes limit bytes place size start x within e =
    let g = passed_test (nat_le size limit && nat_le size (length bytes - start)) (Bad place) (start, start + size) x e in
    let there = and_parts (nat_le size limit) (nat_le size (length bytes - start)) g.0 in
    let most : size ≤ limit = leb-true _ _ there.0 in
    let room : size ≤ length bytes - start = leb-true _ _ there.1 in
    let same : start + size - start ≡ size = omega arith in
    let long : length (take (start + size - start) (drop start bytes)) ≡ size = omega (arith, length-take (start + size - start) (drop start bytes), length-drop start bytes) in
    let parts : drop start bytes ≡ take (start + size - start) (drop start bytes) ++ drop (start + size) bytes = rw same (split bytes start size) in
    subst (IsSpan limit bytes start size) g.1 (record {
      stands = record { behind = omega arith; within = omega arith; parts = parts };
      most = omega arith;
      long = long;
    })

span_again : (limit : ℕ) (bytes : List ℕ) (place : ℕ) (text : List ℕ) (start next : ℕ) → length text ≤ limit → Stands bytes start text next → span_of limit bytes place (length text) start ≡ Ok (start, next)
span_again limit bytes place text start next small stands =
    let behind = stands.behind in
    let within = stands.within in
    let most : nat_le (length text) limit ≡ true = le-leb (length text) limit small in
    let room : nat_le (length text) (length bytes - start) ≡ true = le-leb (length text) (length bytes - start) (omega arith) in
    rw (most, room, behind) refl

part_again : (bytes text : List ℕ) (start next : ℕ) → Stands bytes start text next → part_of bytes start next ≡ text
part_again bytes text start next stands =
    let behind = stands.behind in
    let size : next - start ≡ length text = omega arith in
    rw size (ap (take (length text)) stands.parts ∙ take_at text (drop next bytes) (length text) refl)

pub any_bytes_reads : (limit : ℕ) → ReadsField (IsEncodableLength limit) text_field (bytes_at limit)
unfolding bytes_at span_at text_field
any_bytes_reads limit = record {
  takes = λ bytes place x fits within e.
      let span = bind_ok (span_at limit bytes place) (λ start. Ok (part_of bytes start.0 start.1, start.1)) x e in
      let size = bind_ok (number_at w32 bytes place) (λ size. span_of limit bytes place size.0 size.1) span.0 span.1 in
      let first = number_takes w32 (2 ^ 32) wide32 bytes place size.0 fits within size.1 in
      let inside = first.0.within in
      let second = span_takes limit bytes place size.0.0 size.0.1 span.0 inside size.2 in
      let text = part_of bytes span.0.0 span.0.1 in
      let number : Stands bytes place (to_be_bytes w32 (length text)) size.0.1 = rw second.long first.0 in
      let whole : List ℕ × ℕ = (text, span.0.1) in
      let small : length text < 2 ^ 32 = rw second.long first.1 in
      subst (λ (y : List ℕ × ℕ). Stands bytes place (to_be_bytes w32 (length y.0) ++ y.0) y.1 × IsEncodableLength limit y.0) (ok_is whole x span.2)
      (Stands-then bytes (to_be_bytes w32 (length text)) text place size.0.1 span.0.1 number second.stands, (second.most, small));
  again = λ bytes place text next is stands.
      let size = to_be_bytes w32 (length text) in
      let behind = Stands-second bytes size text place next stands in
      let first = number_again w32 (2 ^ 32) wide32 bytes place (length text) (place + length size) is.1 (Stands-first bytes size text place next stands) in
      let second = span_again limit bytes place text (place + length size) next is.0 behind in
      ap (λ (r : Result (ℕ × ℕ) CodecFault). ((r >>= λ size. span_of limit bytes place size.0 size.1) >>= λ start. Ok (part_of bytes start.0 start.1, start.1))) first
      ∙ ap (λ (r : Result (ℕ × ℕ) CodecFault). (r >>= λ start. Ok (part_of bytes start.0 start.1, start.1))) second
      ∙ ap (λ (t : List ℕ). Ok (t, next)) (part_again bytes text (place + length size) next behind);
}

pub bytes_reads : (limit : ℕ) → limit < 2 ^ 32 → ReadsField (λ (text : List ℕ). length text ≤ limit) text_field (bytes_at limit)
bytes_reads limit small = same_values (λ (text : List ℕ). length text ≤ limit) (any_bytes_reads limit) (λ text is. is.0) (λ text most. (most, omega arith))

-- ---- names

name_is_short : (text : List ℕ) → IsName text → length text ≤ NAME_LIMIT
unfolding is_name
name_is_short text is =
    let utf8 = and_parts (nat_lt 0 (length text) && nat_le (length text) NAME_LIMIT && list_all is_name_byte text && list_all is_name_part (name_parts text)) (is_utf8 text) is in
    let parts = and_parts (nat_lt 0 (length text) && nat_le (length text) NAME_LIMIT && list_all is_name_byte text) (list_all is_name_part (name_parts text)) utf8.0 in
    let each = and_parts (nat_lt 0 (length text) && nat_le (length text) NAME_LIMIT) (list_all is_name_byte text) parts.0 in
    let size = and_parts (nat_lt 0 (length text)) (nat_le (length text) NAME_LIMIT) each.0 in
    leb-true _ _ size.1

pub name_reads : ReadsField IsName text_field name_at
unfolding name_at
name_reads = record {
  takes = λ bytes place x fits within e.
      let text = bind_ok (bytes_at NAME_LIMIT bytes place) (λ text. name_of place text.0 text.1) x e in
      let t = (bytes_reads NAME_LIMIT (omega arith)).takes bytes place text.0 fits within text.1 in
      let whole : List ℕ × ℕ = (text.0.0, text.0.1) in
      let g = passed_test (is_name text.0.0) (Bad place) whole x text.2 in
      subst (λ (y : List ℕ × ℕ). Stands bytes place (text_field y.0) y.1 × IsName y.0) g.1 (t.0, g.0);
  again = λ bytes place text next is stands.
      let one = (bytes_reads NAME_LIMIT (omega arith)).again bytes place text next (name_is_short text is) stands in
      let passes : is_name text ≡ true = is in
      ap (λ (r : Result (List ℕ × ℕ) CodecFault). (r >>= λ text. name_of place text.0 text.1)) one
      ∙ rw passes refl;
}

-- ---- bytes of one length

pub value_reads : (size : ℕ) → size < 2 ^ 32 → ReadsField (λ (value : List ℕ). length value ≡ size) text_field (value_at size)
unfolding value_at
value_reads size small = record {
  takes = λ bytes place x fits within e.
      let value = bind_ok (bytes_at size bytes place) (λ value. value_of size place value.0 value.1) x e in
      let t = (bytes_reads size small).takes bytes place value.0 fits within value.1 in
      let whole : List ℕ × ℕ = (value.0.0, value.0.1) in
      let g = passed_test (eqb (length value.0.0) size) (Bad place) whole x value.2 in
      subst (λ (y : List ℕ × ℕ). Stands bytes place (text_field y.0) y.1 × (length y.0 ≡ size)) g.1 (t.0, eqb-true _ _ g.0);
  again = λ bytes place value next is stands.
      let most : length value ≤ size = omega arith in
      let one = (bytes_reads size small).again bytes place value next most stands in
      let passes : eqb (length value) size ≡ true = eq-eqb (length value) size is in
      ap (λ (r : Result (List ℕ × ℕ) CodecFault). (r >>= λ value. value_of size place value.0 value.1)) one
      ∙ rw passes refl;
}
