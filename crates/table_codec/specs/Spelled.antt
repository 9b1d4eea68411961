-- How tables are spelled as bytes: each field behind the one before it, in the order of its type.
-- Numbers have eight bytes, the first the greatest.
use Rattle.std.specs.Prelude.{ℕ, List, ◌++◌}
use Rattle.std.specs.Int.{to_be_bytes, w64}
use Rattle.machine.specs.declared.app.AppState.{AppState}
use Rattle.machine.specs.declared.lease.Lease.{Lease}
use Rattle.store_state.specs.Tables.{Tables}
use Rattle.record_fields.specs.Fields.{key_field, version_field}
use Rattle.record_fields.specs.Spelled.{list_field, option_field, target_field, truth_field}
use Rattle.record_codec.specs.Spelled.{content_field, view_field}

abbrev pub number_field : ℕ → List ℕ
number_field number = to_be_bytes w64 number

unfoldable pub lease_field : Lease → List ℕ
lease_field lease = number_field lease.number ++ number_field lease.view

-- what comes behind the address that updates come from
unfoldable pub rest_field : AppState → List ℕ
rest_field app =
    option_field number_field app.current ++ (option_field number_field app.previous
    ++ (option_field version_field app.minimum ++ (option_field version_field app.offer
    ++ (option_field version_field app.skipped ++ (option_field version_field app.excluded
    ++ (option_field number_field app.last_check ++ truth_field app.checked))))))

unfoldable pub app_field : AppState → List ℕ
app_field app =
    key_field app.key ++ (option_field target_field app.provider ++ rest_field app)

-- leases, views, applications and contents
unfoldable pub lists_field : Tables → List ℕ
lists_field tables =
    list_field lease_field tables.leases ++ (list_field view_field tables.views
    ++ (list_field app_field tables.apps ++ list_field content_field tables.contents))

-- the bytes of the tables
unfoldable pub state_text : Tables → List ℕ
state_text tables =
    number_field tables.boot ++ (number_field tables.next_view
    ++ (number_field tables.next_lease ++ lists_field tables))
