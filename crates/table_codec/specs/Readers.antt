-- Reading tables from the left. The fault of a part is the first of its fields that cannot be read.
use Rattle.std.specs.Prelude.{◌≡◌, ℕ, List, Option, length, Result, Ok, Err, ◌==◌, if◌then◌else◌}
use Rattle.std.specs.Int.{w64}
use Rattle.small_types.specs.declared.limits.TheConstants.{APPLICATION_LIMIT, FILE_COUNT_LIMIT, LEASE_LIMIT, VIEW_LIMIT}
use Rattle.small_types.specs.declared.target.Target.{Target}
use Rattle.small_types.specs.Outcome.{◌>>=◌}
use Rattle.identity.specs.declared.key.Key.{Key}
use Rattle.machine.specs.declared.app.AppState.{AppState}
use Rattle.machine.specs.declared.lease.Lease.{Lease}
use Rattle.store_state.specs.Kept.{AreTables}
use Rattle.store_state.specs.Tables.{Tables}
use Rattle.record_fields.specs.declared.fault.CodecFault.{CodecFault}
use Rattle.record_fields.specs.declared.fault.CodecFault.TheVariants.{Bad, Memory}
use Rattle.record_fields.specs.Readers.{Gives, key_at, number_at, version_at}
use Rattle.record_fields.specs.Parts.{Reader, list_at, option_at, target_at, truth_at}
use Rattle.record_codec.specs.declared.numbers.TheConstants.{COUNT_LIMIT}
use Rattle.record_codec.specs.Records.{content_at, view_at}
use Rattle.table_codec.specs.declared.app_field.AppRest.{AppRest}
use Rattle.table_codec.specs.declared.decoder.Lists.{Lists}

abbrev pub wide_at : Reader ℕ
wide_at bytes place = number_at w64 bytes place

unfoldable pub lease_at : Reader Lease
lease_at bytes place = do
  number ← wide_at bytes place
  view ← wide_at bytes number.1
  Ok (record { number = number.0; view = view.0 }, view.1)

-- what comes behind the address that updates come from
unfoldable pub rest_at : Reader AppRest
rest_at bytes place = do
  current ← option_at wide_at bytes place
  previous ← option_at wide_at bytes current.1
  minimum ← option_at version_at bytes previous.1
  offer ← option_at version_at bytes minimum.1
  skipped ← option_at version_at bytes offer.1
  excluded ← option_at version_at bytes skipped.1
  last_check ← option_at wide_at bytes excluded.1
  checked ← truth_at bytes last_check.1
  Ok (
    record {
      current = current.0;
      previous = previous.0;
      minimum = minimum.0;
      offer = offer.0;
      skipped = skipped.0;
      excluded = excluded.0;
      last_check = last_check.0;
      checked = checked.0;
    },
    checked.1,
  )

-- the application of the key, with that address and what comes behind it
abbrev pub whole_app : Key → Option Target → AppRest → AppState
whole_app key provider rest = record {
  key = key;
  provider = provider;
  current = rest.current;
  previous = rest.previous;
  minimum = rest.minimum;
  offer = rest.offer;
  skipped = rest.skipped;
  excluded = rest.excluded;
  last_check = rest.last_check;
  checked = rest.checked;
}

unfoldable pub app_at : Reader AppState
app_at bytes place = do
  key ← key_at bytes place
  provider ← option_at target_at bytes key.1
  rest ← rest_at bytes provider.1
  Ok (whole_app key.0 provider.0 rest.0, rest.1)

-- leases, views, applications and contents
unfoldable pub lists_at : Reader Lists
lists_at bytes place = do
  leases ← list_at LEASE_LIMIT lease_at bytes place
  views ← list_at VIEW_LIMIT (view_at COUNT_LIMIT) bytes leases.1
  apps ← list_at APPLICATION_LIMIT app_at bytes views.1
  contents ← list_at FILE_COUNT_LIMIT content_at bytes apps.1
  Ok (
    record {
      leases = leases.0;
      views = views.0;
      apps = apps.0;
      contents = contents.0;
    },
    contents.1,
  )

-- the tables of these numbers and lists
abbrev pub tables_with : ℕ → ℕ → ℕ → Lists → Tables
tables_with boot next_view next_lease lists = record {
  boot = boot;
  next_view = next_view;
  next_lease = next_lease;
  leases = lists.leases;
  views = lists.views;
  apps = lists.apps;
  contents = lists.contents;
}

unfoldable pub tables_at : Reader Tables
tables_at bytes place = do
  boot ← wide_at bytes place
  next_view ← wide_at bytes boot.1
  next_lease ← wide_at bytes next_view.1
  lists ← lists_at bytes next_lease.1
  Ok (tables_with boot.0 next_view.0 next_lease.0 lists.0, lists.1)

-- all of the bytes
unfoldable pub tables_of : List ℕ → Result Tables CodecFault
tables_of bytes = do
  tables ← tables_at bytes 0
  if tables.1 == length bytes then Ok tables.0 else Err (Bad tables.1)

-- Where the bytes are no encoding, a call gives that fault. Where they spell tables, it gives
-- these; and where they spell what is none, the fault is at their end.
abbrev pub Judges : List ℕ → Result Tables CodecFault → Result Tables CodecFault → Type 0
Judges bytes (Ok tables) result =
    (AreTables tables → Gives result (Ok tables))
    × (¬ AreTables tables → Gives result (Err (Bad (length bytes))))
Judges bytes (Err fault) result = Gives result (Err fault)

-- there was no memory, or what was read is no tables and the fault is at the end
abbrev pub IsRefused : ℕ → Tables → CodecFault → Type 0
IsRefused end tables Memory = Unit {0}
IsRefused end tables (Bad place) = (place ≡ end) × ¬ AreTables tables
