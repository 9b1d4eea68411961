-- Keys and versions are read just as they are spelled.
use Rattle.std.proofs.Common.{◌≡◌, ℕ, ◌+◌, ◌^◌, ◌≤◌, List, ◌++◌, length, Ok, refl, subst, arith}
use Rattle.std.specs.Int.{w16, to_be_bytes}
use Rattle.identity.specs.declared.version.Version.{Version}
use Rattle.identity.specs.declared.key.Key.{Key}
use Rattle.identity.specs.Key.{IsShortKey}
use Rattle.identity.specs.Version.{IsVersion}
use Rattle.small_types.specs.Outcome.{◌>>=◌}
use Rattle.small_types.specs.declared.limits.TheConstants.{IDENTITY_PART_LIMIT, NAME_LIMIT}
use Rattle.record_fields.specs.Fields.{text_field, key_field, version_field}
use Rattle.record_fields.specs.Places.{Stands}
use Rattle.record_fields.specs.Readers.{number_at, text_at, key_at, version_at}
use Rattle.record_fields.specs.Reads.{IsBytes}
use Rattle.record_fields.proofs.Fields.{bind_ok, ok_is, Stands-then, Stands-first, Stands-second, wide16, number_takes, number_again, text_takes, text_again}

-- ---- four fields in a row

pub Stands-four : (bytes a b c d : List ℕ) (place p q r next : ℕ) → Stands bytes place a p → Stands bytes p b q → Stands bytes q c r → Stands bytes r d next → Stands bytes place (a ++ (b ++ (c ++ d))) next
Stands-four bytes a b c d place p q r next first second third fourth =
    Stands-then bytes a (b ++ (c ++ d)) place p next first (Stands-then bytes b (c ++ d) p q next second (Stands-then bytes c d q r next third fourth))

pub record FourStand (bytes a b c d : List ℕ) (place next : ℕ) : Type 0 where
  pub first : Stands bytes place a (place + length a)
  pub second : Stands bytes (place + length a) b (place + length a + length b)
  pub third : Stands bytes (place + length a + length b) c (place + length a + length b + length c)
  pub fourth : Stands bytes (place + length a + length b + length c) d next

pub four_stand : (bytes a b c d : List ℕ) (place next : ℕ) → Stands bytes place (a ++ (b ++ (c ++ d))) next → FourStand bytes a b c d place next
four_stand bytes a b c d place next stands =
    let behind_a = Stands-second bytes a (b ++ (c ++ d)) place next stands in
    let behind_b = Stands-second bytes b (c ++ d) (place + length a) next behind_a in
    record {
      first = Stands-first bytes a (b ++ (c ++ d)) place next stands;
      second = Stands-first bytes b (c ++ d) (place + length a) next behind_a;
      third = Stands-first bytes c d (place + length a + length b) next behind_b;
      fourth = Stands-second bytes c d (place + length a + length b) next behind_b;
    }

-- ---- keys

pub key_takes : (bytes : List ℕ) (place : ℕ) (x : Key × ℕ) → IsBytes bytes → place ≤ length bytes → key_at bytes place ≡ Ok x → Stands bytes place (key_field x.0) x.1 × IsShortKey x.0
unfolding key_at key_field
key_takes bytes place x fits within e =
    let a = bind_ok (text_at NAME_LIMIT bytes place) (λ name. text_at IDENTITY_PART_LIMIT bytes name.1 >>= λ token. text_at IDENTITY_PART_LIMIT bytes token.1 >>= λ language. text_at IDENTITY_PART_LIMIT bytes language.1 >>= λ architecture. Ok (record { name = name.0; token = token.0; language = language.0; architecture = architecture.0 }, architecture.1)) x e in
    let b = bind_ok (text_at IDENTITY_PART_LIMIT bytes a.0.1) (λ token. text_at IDENTITY_PART_LIMIT bytes token.1 >>= λ language. text_at IDENTITY_PART_LIMIT bytes language.1 >>= λ architecture. Ok (record { name = a.0.0; token = token.0; language = language.0; architecture = architecture.0 }, architecture.1)) x a.2 in
    let c = bind_ok (text_at IDENTITY_PART_LIMIT bytes b.0.1) (λ language. text_at IDENTITY_PART_LIMIT bytes language.1 >>= λ architecture. Ok (record { name = a.0.0; token = b.0.0; language = language.0; architecture = architecture.0 }, architecture.1)) x b.2 in
    let d = bind_ok (text_at IDENTITY_PART_LIMIT bytes c.0.1) (λ architecture. Ok (record { name = a.0.0; token = b.0.0; language = c.0.0; architecture = architecture.0 }, architecture.1)) x c.2 in
    let ta = text_takes NAME_LIMIT bytes place a.0 fits within a.1 in
    let tb = text_takes IDENTITY_PART_LIMIT bytes a.0.1 b.0 fits ta.0.within b.1 in
    let tc = text_takes IDENTITY_PART_LIMIT bytes b.0.1 c.0 fits tb.0.within c.1 in
    let td = text_takes IDENTITY_PART_LIMIT bytes c.0.1 d.0 fits tc.0.within d.1 in
    let made : Key × ℕ = (record { name = a.0.0; token = b.0.0; language = c.0.0; architecture = d.0.0 }, d.0.1) in
    subst (λ (y : Key × ℕ). Stands bytes place (key_field y.0) y.1 × IsShortKey y.0) (ok_is made x d.2) (
      Stands-four bytes (text_field a.0.0) (text_field b.0.0) (text_field c.0.0) (text_field d.0.0) place a.0.1 b.0.1 c.0.1 d.0.1 ta.0 tb.0 tc.0 td.0,
      record { name = ta.1; token = tb.1; language = tc.1; architecture = td.1 },
    )

pub key_again : (bytes : List ℕ) (place : ℕ) (key : Key) (next : ℕ) → IsShortKey key → Stands bytes place (key_field key) next → key_at bytes place ≡ Ok (key, next)
unfolding key_at key_field
key_again bytes place key next fits stands =
    let four = four_stand bytes (text_field key.name) (text_field key.token) (text_field key.language) (text_field key.architecture) place next stands in
    rw (text_again NAME_LIMIT bytes place key.name _ (omega arith) fits.name four.first, text_again IDENTITY_PART_LIMIT bytes _ key.token _ (omega arith) fits.token four.second, text_again IDENTITY_PART_LIMIT bytes _ key.language _ (omega arith) fits.language four.third, text_again IDENTITY_PART_LIMIT bytes _ key.architecture next (omega arith) fits.architecture four.fourth) refl

-- ---- versions

pub version_takes : (bytes : List ℕ) (place : ℕ) (x : Version × ℕ) → IsBytes bytes → place ≤ length bytes → version_at bytes place ≡ Ok x → Stands bytes place (version_field x.0) x.1 × IsVersion x.0
unfolding version_at version_field
version_takes bytes place x fits within e =
    let a = bind_ok (number_at w16 bytes place) (λ a. number_at w16 bytes a.1 >>= λ b. number_at w16 bytes b.1 >>= λ c. number_at w16 bytes c.1 >>= λ d. Ok (record { a = a.0; b = b.0; c = c.0; d = d.0 }, d.1)) x e in
    let b = bind_ok (number_at w16 bytes a.0.1) (λ b. number_at w16 bytes b.1 >>= λ c. number_at w16 bytes c.1 >>= λ d. Ok (record { a = a.0.0; b = b.0; c = c.0; d = d.0 }, d.1)) x a.2 in
    let c = bind_ok (number_at w16 bytes b.0.1) (λ c. number_at w16 bytes c.1 >>= λ d. Ok (record { a = a.0.0; b = b.0.0; c = c.0; d = d.0 }, d.1)) x b.2 in
    let d = bind_ok (number_at w16 bytes c.0.1) (λ d. Ok (record { a = a.0.0; b = b.0.0; c = c.0.0; d = d.0 }, d.1)) x c.2 in
    let ta = number_takes w16 (2 ^ 16) wide16 bytes place a.0 fits within a.1 in
    let tb = number_takes w16 (2 ^ 16) wide16 bytes a.0.1 b.0 fits ta.0.within b.1 in
    let tc = number_takes w16 (2 ^ 16) wide16 bytes b.0.1 c.0 fits tb.0.within c.1 in
    let td = number_takes w16 (2 ^ 16) wide16 bytes c.0.1 d.0 fits tc.0.within d.1 in
    let made : Version × ℕ = (record { a = a.0.0; b = b.0.0; c = c.0.0; d = d.0.0 }, d.0.1) in
    subst (λ (y : Version × ℕ). Stands bytes place (version_field y.0) y.1 × IsVersion y.0) (ok_is made x d.2) (
      Stands-four bytes (to_be_bytes w16 a.0.0) (to_be_bytes w16 b.0.0) (to_be_bytes w16 c.0.0) (to_be_bytes w16 d.0.0) place a.0.1 b.0.1 c.0.1 d.0.1 ta.0 tb.0 tc.0 td.0,
      record { a = ta.1; b = tb.1; c = tc.1; d = td.1 },
    )

pub version_again : (bytes : List ℕ) (place : ℕ) (v : Version) (next : ℕ) → IsVersion v → Stands bytes place (version_field v) next → version_at bytes place ≡ Ok (v, next)
unfolding version_at version_field
version_again bytes place v next fits stands =
    let four = four_stand bytes (to_be_bytes w16 v.a) (to_be_bytes w16 v.b) (to_be_bytes w16 v.c) (to_be_bytes w16 v.d) place next stands in
    rw (number_again w16 (2 ^ 16) wide16 bytes place v.a _ fits.a four.first, number_again w16 (2 ^ 16) wide16 bytes _ v.b _ fits.b four.second, number_again w16 (2 ^ 16) wide16 bytes _ v.c _ fits.c four.third, number_again w16 (2 ^ 16) wide16 bytes _ v.d next fits.d four.fourth) refl
