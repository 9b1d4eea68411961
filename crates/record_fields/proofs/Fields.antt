-- A field that is read stands at its place, and a field that stands at a place is read there.
use Rattle.std.proofs.Common.{◌≡◌, ℕ, ◌+◌, ◌-◌, ◌^◌, ◌<◌, ◌≤◌, Bool, true, false, cond, ltb, ◌&&◌, List, ◌++◌, length, take, drop, Result, Ok, Err, refl, sym, ap, subst, ◌∙◌, append_assoc, arith, inl, inr}
use Rattle.std.specs.Prelude.{nat_le}
use Rattle.std.specs.Int.{Width, w16, w32, w64, byte_len, from_be_bytes, to_be_bytes}
use Rattle.std.specs.Str.{is_utf8}
use Rattle.std.proofs.lemmas.Bool.{cases_lt, ltb-false, leb-true, le-ltb, le-leb, and_parts}
use Rattle.std.proofs.lemmas.List.{take_at, drop_at, drop-drop, take-append-drop, length-append, length-take, length-drop, get_or-drop, get_or-take, get_or_past}
use Rattle.std.proofs.lemmas.Nat.{be_bytes_2, be_bytes_4, be_bytes_8, from_be_bytes-to_be_bytes_2, from_be_bytes-to_be_bytes_4, from_be_bytes-to_be_bytes_8}
use Rattle.std.proofs.lemmas.Str.{IsUtf8-from_is_utf8, is_utf8-from_IsUtf8}
use Rattle.small_types.specs.Short.{IsShort}
use Rattle.small_types.specs.Outcome.{◌>>=◌}
use Rattle.record_fields.specs.declared.fault.CodecFault.{CodecFault}
use Rattle.record_fields.specs.declared.fault.CodecFault.TheVariants.{Bad}
use Rattle.record_fields.specs.Fields.{text_field}
use Rattle.record_fields.specs.Places.{Stands}
use Rattle.record_fields.specs.Readers.{number_at, sized_at, text_at}
use Rattle.record_fields.specs.Reads.{IsBytes}

-- ---- steps

-- the value of a step that did not fail
pub bind_ok : {A B : Type 0} (r : Result A CodecFault) (f : A → Result B CodecFault) (y : B) → (r >>= f) ≡ Ok y → (x : A) × (r ≡ Ok x) × (f x ≡ Ok y)
bind_ok (Ok x) f y e = (x, refl, e)
bind_ok (Err d) f y e = absurd cc

abbrev done : {A : Type 0} → A → Result A CodecFault
done x = Ok x

pub ok_is : {A : Type 0} (x y : A) → done x ≡ done y → x ≡ y
ok_is x y e = cc

-- a test that did not fail
failed_test : {A : Type 0} (b : Bool) (d : CodecFault) (x y : A) → cond b (Err d) (Ok x) ≡ Ok y → (b ≡ false) × (x ≡ y)
failed_test true d x y e = absurd cc
failed_test false d x y e = (refl, cc)

pub passed_test : {A : Type 0} (b : Bool) (d : CodecFault) (x y : A) → cond b (Ok x) (Err d) ≡ Ok y → (b ≡ true) × (x ≡ y)
passed_test true d x y e = (refl, cc)
passed_test false d x y e = absurd cc

-- ---- fields at places

-- one field behind another
pub Stands-then : (bytes a b : List ℕ) (place mid next : ℕ) → Stands bytes place a mid → Stands bytes mid b next → Stands bytes place (a ++ b) next
Stands-then bytes a b place mid next first second = record {
  behind = (let e = first.behind in let f = second.behind in omega (arith, length-append a b));
  within = second.within;
  parts = first.parts ∙ ap (λ (t : List ℕ). a ++ t) second.parts ∙ sym (append_assoc a b (drop next bytes));
}

behind_parts : (bytes a rest : List ℕ) (place : ℕ) → drop place bytes ≡ a ++ rest → drop (place + length a) bytes ≡ rest
behind_parts bytes a rest place parts = sym (drop-drop (length a) place bytes) ∙ ap (drop (length a)) parts ∙ drop_at a rest (length a) refl

-- the first of two fields, and the second behind it
pub Stands-first : (bytes a b : List ℕ) (place next : ℕ) → Stands bytes place (a ++ b) next → Stands bytes place a (place + length a)
Stands-first bytes a b place next both =
    let parts : drop place bytes ≡ a ++ (b ++ drop next bytes) = both.parts ∙ append_assoc a b (drop next bytes) in
    record {
      behind = refl;
      within = (let e = both.behind in let w = both.within in omega (arith, length-append a b));
      parts = parts ∙ ap (λ (t : List ℕ). a ++ t) (sym (behind_parts bytes a (b ++ drop next bytes) place parts));
    }

pub Stands-second : (bytes a b : List ℕ) (place next : ℕ) → Stands bytes place (a ++ b) next → Stands bytes (place + length a) b next
Stands-second bytes a b place next both =
    let parts : drop place bytes ≡ a ++ (b ++ drop next bytes) = both.parts ∙ append_assoc a b (drop next bytes) in
    record {
      behind = (let e = both.behind in omega (arith, length-append a b));
      within = both.within;
      parts = behind_parts bytes a (b ++ drop next bytes) place parts;
    }

pub split : (bytes : List ℕ) (place size : ℕ) → drop place bytes ≡ take size (drop place bytes) ++ drop (place + size) bytes
split bytes place size = sym (take-append-drop size (drop place bytes)) ∙ ap (λ (t : List ℕ). take size (drop place bytes) ++ t) (drop-drop size place bytes)

-- ---- numbers

IsBytes-drop : (n : ℕ) (bytes : List ℕ) → IsBytes bytes → IsBytes (drop n bytes)
IsBytes-drop n bytes h i = rw get_or-drop (h (n + i))

IsBytes-take : (n : ℕ) (bytes : List ℕ) → IsBytes bytes → IsBytes (take n bytes)
IsBytes-take n bytes h i =
    elim (cases_lt i n) [
      | inl lt ↦ rw (get_or-take n bytes i 0 lt) (h i)
      | inr le ↦ rw (get_or_past (take n bytes) i 0 (omega (arith, length-take n bytes))) (omega arith)
    ]

pub record IsWide (w : Width) (limit : ℕ) : Type 0 where
  pub len : (n : ℕ) → length (to_be_bytes w n) ≡ byte_len w
  pub back : (bytes : List ℕ) → length bytes ≡ byte_len w → IsBytes bytes → to_be_bytes w (from_be_bytes w bytes) ≡ bytes
  pub again : (n : ℕ) → n < limit → from_be_bytes w (to_be_bytes w n) ≡ n
  pub below : (bytes : List ℕ) → IsBytes bytes → from_be_bytes w bytes < limit

pub wide16 : IsWide w16 (2 ^ 16)
wide16 = record {
  len = λ n. refl;
  back = λ bytes len fits. be_bytes_2 bytes _ len fits refl;
  again = λ n lt. from_be_bytes-to_be_bytes_2 n lt;
  below = λ bytes fits. omega (arith, fits 0, fits 1);
}

pub wide32 : IsWide w32 (2 ^ 32)
wide32 = record {
  len = λ n. refl;
  back = λ bytes len fits. be_bytes_4 bytes _ len fits refl;
  again = λ n lt. from_be_bytes-to_be_bytes_4 n lt;
  below = λ bytes fits. omega (arith, fits 0, fits 1, fits 2, fits 3);
}

pub wide64 : IsWide w64 (2 ^ 64)
wide64 = record {
  len = λ n. refl;
  back = λ bytes len fits. be_bytes_8 bytes _ len fits refl;
  again = λ n lt. from_be_bytes-to_be_bytes_8 n lt;
  below = λ bytes fits. omega (arith, fits 0, fits 1, fits 2, fits 3, fits 4, fits 5, fits 6, fits 7);
}

module _ (w : Width) (limit : ℕ) (wide : IsWide w limit) where
  pub number_takes : (bytes : List ℕ) (place : ℕ) (x : ℕ × ℕ) → IsBytes bytes → place ≤ length bytes → number_at w bytes place ≡ Ok x → Stands bytes place (to_be_bytes w x.0) x.1 × (x.0 < limit)
  number_takes bytes place x fits within e =
      let g = failed_test (ltb (length bytes - place) (byte_len w)) (Bad place) (from_be_bytes w (take (byte_len w) (drop place bytes)), place + byte_len w) x e in
      let long : byte_len w ≤ length bytes - place = ltb-false _ _ g.0 in
      let front = take (byte_len w) (drop place bytes) in
      let are_bytes : IsBytes front = IsBytes-take (byte_len w) (drop place bytes) (IsBytes-drop place bytes fits) in
      let size : length front ≡ byte_len w = omega (arith, length-take (byte_len w) (drop place bytes), length-drop place bytes) in
      let back : to_be_bytes w (from_be_bytes w front) ≡ front = wide.back front size are_bytes in
      let made : ℕ × ℕ = (from_be_bytes w front, place + byte_len w) in
      subst (λ (y : ℕ × ℕ). Stands bytes place (to_be_bytes w y.0) y.1 × (y.0 < limit)) g.1 (
        record {
          behind = omega (arith, wide.len (from_be_bytes w front));
          within = omega arith;
          parts = split bytes place (byte_len w) ∙ ap (λ (t : List ℕ). t ++ drop (place + byte_len w) bytes) (sym back);
        },
        wide.below front are_bytes,
      )

  pub number_again : (bytes : List ℕ) (place n next : ℕ) → n < limit → Stands bytes place (to_be_bytes w n) next → number_at w bytes place ≡ Ok (n, next)
  number_again bytes place n next small stands =
      let behind = stands.behind in
      let within = stands.within in
      let long : ltb (length bytes - place) (byte_len w) ≡ false = le-ltb _ _ (omega (arith, wide.len n)) in
      let front : take (byte_len w) (drop place bytes) ≡ to_be_bytes w n = ap (take (byte_len w)) stands.parts ∙ take_at (to_be_bytes w n) (drop next bytes) (byte_len w) (wide.len n) in
      let at : next ≡ place + byte_len w = omega (arith, wide.len n) in
      rw (long, front, wide.again n small, at) refl

-- ---- texts

sized_takes : (limit : ℕ) (bytes : List ℕ) (place size start : ℕ) (x : List ℕ × ℕ) → start ≤ length bytes → sized_at limit bytes place size start ≡ Ok x → Stands bytes start x.0 x.1 × IsShort limit x.0 × (length x.0 ≡ size)
sized_takes limit bytes place size start x within e =
    let text = take size (drop start bytes) in
    let g = passed_test (nat_le size limit && nat_le size (length bytes - start) && is_utf8 text) (Bad place) (text, start + size) x e in
    let utf8 = and_parts (nat_le size limit && nat_le size (length bytes - start)) (is_utf8 text) g.0 in
    let there = and_parts (nat_le size limit) (nat_le size (length bytes - start)) utf8.0 in
    let most : size ≤ limit = leb-true _ _ there.0 in
    let room : size ≤ length bytes - start = leb-true _ _ there.1 in
    let long : length text ≡ size = omega (arith, length-take size (drop start bytes), length-drop start bytes) in
    subst (λ (y : List ℕ × ℕ). Stands bytes start y.0 y.1 × IsShort limit y.0 × (length y.0 ≡ size)) g.1 (
      record { behind = omega arith; within = omega arith; parts = split bytes start size },
      record { within = omega arith; utf8 = IsUtf8-from_is_utf8 text utf8.1 },
      long,
    )

sized_again : (limit : ℕ) (bytes : List ℕ) (place : ℕ) (text : List ℕ) (start next : ℕ) → IsShort limit text → Stands bytes start text next → sized_at limit bytes place (length text) start ≡ Ok (text, next)
sized_again limit bytes place text start next part stands =
    let behind = stands.behind in
    let within = stands.within in
    let front : take (length text) (drop start bytes) ≡ text = ap (take (length text)) stands.parts ∙ take_at text (drop next bytes) (length text) refl in
    let most : nat_le (length text) limit ≡ true = le-leb (length text) limit part.within in
    let room : nat_le (length text) (length bytes - start) ≡ true = le-leb (length text) (length bytes - start) (omega arith) in
    let utf8 : is_utf8 text ≡ true = is_utf8-from_IsUtf8 text part.utf8 in
    rw (front, most, room, utf8, behind) refl

-- its length is a number that four bytes can say
abbrev pub IsText : ℕ → List ℕ → Type 0
IsText limit text = IsShort limit text × (length text < 2 ^ 32)

pub any_text_takes : (limit : ℕ) (bytes : List ℕ) (place : ℕ) (x : List ℕ × ℕ) → IsBytes bytes → place ≤ length bytes → text_at limit bytes place ≡ Ok x → Stands bytes place (text_field x.0) x.1 × IsText limit x.0
unfolding text_at text_field
any_text_takes limit bytes place x fits within e =
    let size = bind_ok (number_at w32 bytes place) (λ size. sized_at limit bytes place size.0 size.1) x e in
    let first = number_takes w32 (2 ^ 32) wide32 bytes place size.0 fits within size.1 in
    let inside = first.0.within in
    let second = sized_takes limit bytes place size.0.0 size.0.1 x inside size.2 in
    let number : Stands bytes place (to_be_bytes w32 (length x.0)) size.0.1 = rw second.2 first.0 in
    let small : length x.0 < 2 ^ 32 = rw second.2 first.1 in
    (Stands-then bytes (to_be_bytes w32 (length x.0)) x.0 place size.0.1 x.1 number second.0, (second.1, small))

pub any_text_again : (limit : ℕ) (bytes : List ℕ) (place : ℕ) (text : List ℕ) (next : ℕ) → IsText limit text → Stands bytes place (text_field text) next → text_at limit bytes place ≡ Ok (text, next)
unfolding text_at text_field
any_text_again limit bytes place text next is stands =
    let size = to_be_bytes w32 (length text) in
    let first = number_again w32 (2 ^ 32) wide32 bytes place (length text) (place + length size) is.1 (Stands-first bytes size text place next stands) in
    let second = sized_again limit bytes place text (place + length size) next is.0 (Stands-second bytes size text place next stands) in
    rw first second

pub text_takes : (limit : ℕ) (bytes : List ℕ) (place : ℕ) (x : List ℕ × ℕ) → IsBytes bytes → place ≤ length bytes → text_at limit bytes place ≡ Ok x → Stands bytes place (text_field x.0) x.1 × IsShort limit x.0
text_takes limit bytes place x fits within e =
    let t = any_text_takes limit bytes place x fits within e in
    (t.0, t.1.0)

pub text_again : (limit : ℕ) (bytes : List ℕ) (place : ℕ) (text : List ℕ) (next : ℕ) → limit < 2 ^ 32 → IsShort limit text → Stands bytes place (text_field text) next → text_at limit bytes place ≡ Ok (text, next)
text_again limit bytes place text next small part stands =
    let most = part.within in
    any_text_again limit bytes place text next (part, omega arith) stands
