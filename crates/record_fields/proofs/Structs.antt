-- Addresses and identities are read just as they are spelled.
use Rattle.std.proofs.Common.{◌≡◌, ℕ, ◌<◌, ◌^◌, ◌++◌, Ok, refl, ap, arith}
use Rattle.std.specs.Int.{w16, w32, w64, to_be_bytes}
use Rattle.small_types.specs.declared.limits.TheConstants.{IDENTITY_PART_LIMIT, NAME_LIMIT, URL_LIMIT}
use Rattle.small_types.specs.declared.target.Target.{Target}
use Rattle.small_types.specs.Outcome.{◌>>=◌}
use Rattle.identity.specs.declared.identity.Identity.{Identity}
use Rattle.identity.specs.Version.{IsVersion}
use Rattle.small_types.specs.Short.{IsShort, IsTarget}
use Rattle.identity.specs.Key.{IsShortKey}
use Rattle.record_fields.specs.Fields.{text_field, key_field, version_field}
use Rattle.record_fields.specs.Readers.{number_at, text_at, key_at, version_at}
use Rattle.record_fields.specs.Parts.{target_at, identity_at}
use Rattle.record_fields.specs.Spelled.{target_field, identity_field}
use Rattle.record_fields.specs.Values.{IsEncodableIdentity}
use Rattle.record_fields.specs.Reads.{ReadsField}
use Rattle.record_fields.proofs.Fields.{wide16, wide32, wide64, number_takes, number_again, IsText, text_takes, text_again, any_text_takes, any_text_again}
use Rattle.record_fields.proofs.Keys.{key_takes, key_again, version_takes, version_again}
use Rattle.record_fields.proofs.Together.{first, last, same_values}

-- ---- numbers, texts, keys and versions

pub number16_reads : ReadsField (λ n. n < 2 ^ 16) (to_be_bytes w16) (number_at w16)
number16_reads = record { takes = number_takes w16 (2 ^ 16) wide16; again = λ bytes place n next is stands. number_again w16 (2 ^ 16) wide16 bytes place n next is stands }

pub number32_reads : ReadsField (λ n. n < 2 ^ 32) (to_be_bytes w32) (number_at w32)
number32_reads = record { takes = number_takes w32 (2 ^ 32) wide32; again = λ bytes place n next is stands. number_again w32 (2 ^ 32) wide32 bytes place n next is stands }

pub number64_reads : ReadsField (λ n. n < 2 ^ 64) (to_be_bytes w64) (number_at w64)
number64_reads = record { takes = number_takes w64 (2 ^ 64) wide64; again = λ bytes place n next is stands. number_again w64 (2 ^ 64) wide64 bytes place n next is stands }

pub any_text_reads : (limit : ℕ) → ReadsField (IsText limit) text_field (text_at limit)
any_text_reads limit = record { takes = any_text_takes limit; again = any_text_again limit }

pub text_reads : (limit : ℕ) → limit < 2 ^ 32 → ReadsField (IsShort limit) text_field (text_at limit)
text_reads limit small = record { takes = text_takes limit; again = λ bytes place text next is stands. text_again limit bytes place text next small is stands }

pub part_text_reads : ReadsField (IsShort NAME_LIMIT) text_field (text_at NAME_LIMIT)
part_text_reads = text_reads NAME_LIMIT (omega arith)

pub key_reads : ReadsField IsShortKey key_field key_at
key_reads = record { takes = key_takes; again = key_again }

pub version_reads : ReadsField IsVersion version_field version_at
version_reads = record { takes = version_takes; again = version_again }

-- ---- addresses and identities

pub target_reads : ReadsField IsTarget target_field target_at
unfolding target_at target_field
target_reads = same_values IsTarget (
    first {X = Target} (text_reads URL_LIMIT (omega arith)) (λ x. x.host) (λ a0 x. ((x.port < 2 ^ 16) × (IsShort URL_LIMIT x.path × (x ≡ record { host = a0; port = x.port; path = x.path })))) (λ x. (to_be_bytes w16) x.port ++ (text_field x.path)) (λ a0 bytes place. number_at w16 bytes place >>= λ p1. text_at URL_LIMIT bytes p1.1 >>= λ p2. Ok (record { host = a0; port = p1.0; path = p2.0 }, p2.1)) (λ a0 x is. ap (λ (y : Target). y.host) is.1.1) (λ a0.
    first {X = Target} number16_reads (λ x. x.port) (λ a1 x. (IsShort URL_LIMIT x.path × (x ≡ record { host = a0; port = a1; path = x.path }))) (λ x. text_field x.path) (λ a1 bytes place. text_at URL_LIMIT bytes place >>= λ p2. Ok (record { host = a0; port = a1; path = p2.0 }, p2.1)) (λ a1 x is. ap (λ (y : Target). y.port) is.1) (λ a1.
    last {X = Target} (text_reads URL_LIMIT (omega arith)) (λ x. x.path) (λ a2. record { host = a0; port = a1; path = a2 }) (λ a2. refl))))
    (λ x is. record { host = is.0; port = is.1.0; path = is.1.1.0 })
    (λ x is. (is.host, (is.port, (is.path, refl))))

pub identity_reads : ReadsField IsEncodableIdentity identity_field identity_at
unfolding identity_at identity_field
identity_reads = same_values IsEncodableIdentity (
    first {X = Identity} key_reads (λ x. x.key) (λ a0 x. (IsVersion x.version × (IsShort IDENTITY_PART_LIMIT x.kind × (x ≡ record { key = a0; version = x.version; kind = x.kind })))) (λ x. version_field x.version ++ (text_field x.kind)) (λ a0 bytes place. version_at bytes place >>= λ p1. text_at IDENTITY_PART_LIMIT bytes p1.1 >>= λ p2. Ok (record { key = a0; version = p1.0; kind = p2.0 }, p2.1)) (λ a0 x is. ap (λ (y : Identity). y.key) is.1.1) (λ a0.
    first {X = Identity} version_reads (λ x. x.version) (λ a1 x. (IsShort IDENTITY_PART_LIMIT x.kind × (x ≡ record { key = a0; version = a1; kind = x.kind }))) (λ x. text_field x.kind) (λ a1 bytes place. text_at IDENTITY_PART_LIMIT bytes place >>= λ p2. Ok (record { key = a0; version = a1; kind = p2.0 }, p2.1)) (λ a1 x is. ap (λ (y : Identity). y.version) is.1) (λ a1.
    last {X = Identity} (text_reads IDENTITY_PART_LIMIT (omega arith)) (λ x. x.kind) (λ a2. record { key = a0; version = a1; kind = a2 }) (λ a2. refl))))
    (λ x is. record { key = is.0; version = is.1.0; kind = is.1.1.0 })
    (λ x is. (is.key, (is.version, (is.kind, refl))))
