-- The encoding of the empty tables.
use Rattle.std.proofs.Common.{◌≡◌, ◌⊎◌, ◌+◌, ◌<◌, ◌∙◌, ℕ, List, length, inl, inr, refl, ap, arith}
use Rattle.std.proofs.lemmas.List.Elements.{All-nil}
use Rattle.journal.specs.declared.fault.LogFault.{LogFault}
use Rattle.journal.specs.declared.fault.LogFault.TheVariants.{DiskFault, Memory, NoRoom}
use Rattle.journal.specs.Layout.{AreLimits}
use Rattle.store_state.specs.Kept.{AreTables}
use Rattle.store_state.specs.Tables.{Tables, empty}
use Rattle.table_codec.specs.Spelled.{lists_field, state_text}
use Rattle.table_codec.specs.Values.{IsEncodableState}
use Rattle.record_fields.specs.Spelled.{list_field}
use Rattle.table_log.specs.Texts.{Spells}

-- the empty tables have an encoding
pub empty_has : IsEncodableState empty
empty_has = record {
  boot = omega arith;
  next_view = omega arith;
  next_lease = omega arith;
  few_leases = omega arith;
  leases = All-nil _;
  few_views = omega arith;
  views = All-nil _;
  few_apps = omega arith;
  apps = All-nil _;
  few_contents = omega arith;
  contents = All-nil _;
}

-- and are tables
pub empty_are : AreTables empty
empty_are = record {
  order = tt;
  few_apps = omega arith;
  rising = λ i j d lt within. absurd (omega arith);
  below = All-nil _;
  limit = omega arith;
  few_views = omega arith;
  few_files = omega arith;
  lease_numbers = record { rising = λ i j d lt within. absurd (omega arith); below = All-nil _; limit = omega arith };
  few_leases = omega arith;
  rows = All-nil _;
  contents = record { each = All-nil _; only = All-nil _; once = λ i j d lt within. absurd (omega arith) };
}

pub empty_spells : Spells empty (state_text empty)
empty_spells = record { has = empty_has; are = empty_are; is = refl }

-- it is short
pub empty_short : length (state_text empty) ≡ 40
unfolding state_text lists_field list_field
empty_short = refl

-- so is each that equals it
pub short_as : (tables : Tables) → tables ≡ empty → length (state_text tables) ≡ 40
short_as tables is = ap (λ (t : Tables). length (state_text t)) is ∙ empty_short

-- so each half has room for it
pub fits_each : (text : List ℕ) (blocks half : ℕ) (fault : LogFault) → text ≡ state_text empty → AreLimits blocks half
    → (fault ≡ DiskFault) ⊎ ((fault ≡ Memory) ⊎ ((fault ≡ NoRoom (length text + 11) half) × (half < length text + 11))) → (fault ≡ DiskFault) ⊎ (fault ≡ Memory)
fits_each text blocks half fault is limits (inl disk) = inl disk
fits_each text blocks half fault is limits (inr (inl memory)) = inr memory
fits_each text blocks half fault is limits (inr (inr room)) = absurd (omega (arith, ap length is, empty_short, limits.least, room.1))
