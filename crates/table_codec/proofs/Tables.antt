-- Tables are read just as they are spelled.
use Rattle.std.proofs.Common.{◌≡◌, ℕ, ◌≤◌, List, ◌++◌, length, Ok, refl, ap, arith}
use Rattle.std.specs.Prelude.{All, IfSome}
use Rattle.small_types.specs.declared.limits.TheConstants.{APPLICATION_LIMIT, FILE_COUNT_LIMIT, LEASE_LIMIT, VIEW_LIMIT}
use Rattle.small_types.specs.Outcome.{◌>>=◌}
use Rattle.small_types.specs.Short.{IsTarget}
use Rattle.identity.specs.Version.{IsVersion}
use Rattle.machine.specs.declared.app.AppState.{AppState}
use Rattle.machine.specs.declared.lease.Lease.{Lease}
use Rattle.store_state.specs.Tables.{Tables}
use Rattle.record_fields.specs.Fields.{version_field}
use Rattle.record_fields.specs.Parts.{list_at, option_at, target_at, truth_at}
use Rattle.record_fields.specs.Readers.{version_at}
use Rattle.record_fields.specs.Reads.{ReadsField}
use Rattle.record_fields.specs.Spelled.{list_field, option_field, target_field, truth_field}
use Rattle.record_fields.proofs.Forms.{truth_reads}
use Rattle.record_fields.proofs.Lists.{list_reads, option_reads}
use Rattle.record_fields.proofs.Structs.{key_reads, number64_reads, target_reads, version_reads}
use Rattle.record_fields.proofs.Together.{first, last, same_values}
use Rattle.record_codec.specs.declared.numbers.TheConstants.{COUNT_LIMIT}
use Rattle.record_codec.specs.Records.{content_at, view_at}
use Rattle.record_codec.specs.Spelled.{content_field, view_field}
use Rattle.record_codec.specs.Values.{IsEncodableContent, IsEncodableView}
use Rattle.record_codec.proofs.Records.{content_reads, view_reads}
use Rattle.table_codec.specs.declared.app_field.AppRest.{AppRest}
use Rattle.table_codec.specs.declared.decoder.Lists.{Lists}
use Rattle.table_codec.specs.Readers.{app_at, lease_at, lists_at, rest_at, tables_at, tables_with, whole_app, wide_at}
use Rattle.table_codec.specs.Spelled.{app_field, lease_field, lists_field, number_field, rest_field, state_text}
use Rattle.table_codec.specs.Values.{IsEncodableApp, IsEncodableLease, IsEncodableState, IsWide}

-- ---- leases

pub lease_reads : ReadsField IsEncodableLease lease_field lease_at
unfolding lease_at lease_field
lease_reads = same_values IsEncodableLease (
    first {X = Lease} number64_reads (λ x. x.number) (λ a0 x. (IsWide x.view × (x ≡ record { number = a0; view = x.view }))) (λ x. number_field x.view) (λ a0 bytes place. wide_at bytes place >>= λ p1. Ok (record { number = a0; view = p1.0 }, p1.1)) (λ a0 x is. ap (λ (y : Lease). y.number) is.1) (λ a0.
    last {X = Lease} number64_reads (λ x. x.view) (λ a1. record { number = a0; view = a1 }) (λ a1. refl)))
    (λ x is. record { number = is.0; view = is.1.0 })
    (λ x is. (is.number, (is.view, refl)))

-- ---- applications

record IsEncodableRest (rest : AppRest) : Type 0 where
  current : IfSome rest.current IsWide
  previous : IfSome rest.previous IsWide
  minimum : IfSome rest.minimum IsVersion
  offer : IfSome rest.offer IsVersion
  skipped : IfSome rest.skipped IsVersion
  excluded : IfSome rest.excluded IsVersion
  last_check : IfSome rest.last_check IsWide

abbrev rest_text : AppRest → List ℕ
rest_text rest =
    option_field number_field rest.current ++ (option_field number_field rest.previous
    ++ (option_field version_field rest.minimum ++ (option_field version_field rest.offer
    ++ (option_field version_field rest.skipped ++ (option_field version_field rest.excluded
    ++ (option_field number_field rest.last_check ++ truth_field rest.checked))))))

rest_reads : ReadsField IsEncodableRest rest_text rest_at
unfolding rest_at
rest_reads = same_values IsEncodableRest (
    first {X = AppRest} (option_reads number64_reads) (λ x. x.current) (λ a0 x. (IfSome x.previous IsWide × (IfSome x.minimum IsVersion × (IfSome x.offer IsVersion × (IfSome x.skipped IsVersion × (IfSome x.excluded IsVersion × (IfSome x.last_check IsWide × (Unit {0} × (x ≡ record { current = a0; previous = x.previous; minimum = x.minimum; offer = x.offer; skipped = x.skipped; excluded = x.excluded; last_check = x.last_check; checked = x.checked }))))))))) (λ x. option_field number_field x.previous ++ (option_field version_field x.minimum ++ (option_field version_field x.offer ++ (option_field version_field x.skipped ++ (option_field version_field x.excluded ++ (option_field number_field x.last_check ++ (truth_field x.checked))))))) (λ a0 bytes place. option_at wide_at bytes place >>= λ p1. option_at version_at bytes p1.1 >>= λ p2. option_at version_at bytes p2.1 >>= λ p3. option_at version_at bytes p3.1 >>= λ p4. option_at version_at bytes p4.1 >>= λ p5. option_at wide_at bytes p5.1 >>= λ p6. truth_at bytes p6.1 >>= λ p7. Ok (record { current = a0; previous = p1.0; minimum = p2.0; offer = p3.0; skipped = p4.0; excluded = p5.0; last_check = p6.0; checked = p7.0 }, p7.1)) (λ a0 x is. ap (λ (y : AppRest). y.current) is.1.1.1.1.1.1.1) (λ a0.
    first {X = AppRest} (option_reads number64_reads) (λ x. x.previous) (λ a1 x. (IfSome x.minimum IsVersion × (IfSome x.offer IsVersion × (IfSome x.skipped IsVersion × (IfSome x.excluded IsVersion × (IfSome x.last_check IsWide × (Unit {0} × (x ≡ record { current = a0; previous = a1; minimum = x.minimum; offer = x.offer; skipped = x.skipped; excluded = x.excluded; last_check = x.last_check; checked = x.checked })))))))) (λ x. option_field version_field x.minimum ++ (option_field version_field x.offer ++ (option_field version_field x.skipped ++ (option_field version_field x.excluded ++ (option_field number_field x.last_check ++ (truth_field x.checked)))))) (λ a1 bytes place. option_at version_at bytes place >>= λ p2. option_at version_at bytes p2.1 >>= λ p3. option_at version_at bytes p3.1 >>= λ p4. option_at version_at bytes p4.1 >>= λ p5. option_at wide_at bytes p5.1 >>= λ p6. truth_at bytes p6.1 >>= λ p7. Ok (record { current = a0; previous = a1; minimum = p2.0; offer = p3.0; skipped = p4.0; excluded = p5.0; last_check = p6.0; checked = p7.0 }, p7.1)) (λ a1 x is. ap (λ (y : AppRest). y.previous) is.1.1.1.1.1.1) (λ a1.
    first {X = AppRest} (option_reads version_reads) (λ x. x.minimum) (λ a2 x. (IfSome x.offer IsVersion × (IfSome x.skipped IsVersion × (IfSome x.excluded IsVersion × (IfSome x.last_check IsWide × (Unit {0} × (x ≡ record { current = a0; previous = a1; minimum = a2; offer = x.offer; skipped = x.skipped; excluded = x.excluded; last_check = x.last_check; checked = x.checked }))))))) (λ x. option_field version_field x.offer ++ (option_field version_field x.skipped ++ (option_field version_field x.excluded ++ (option_field number_field x.last_check ++ (truth_field x.checked))))) (λ a2 bytes place. option_at version_at bytes place >>= λ p3. option_at version_at bytes p3.1 >>= λ p4. option_at version_at bytes p4.1 >>= λ p5. option_at wide_at bytes p5.1 >>= λ p6. truth_at bytes p6.1 >>= λ p7. Ok (record { current = a0; previous = a1; minimum = a2; offer = p3.0; skipped = p4.0; excluded = p5.0; last_check = p6.0; checked = p7.0 }, p7.1)) (λ a2 x is. ap (λ (y : AppRest). y.minimum) is.1.1.1.1.1) (λ a2.
    first {X = AppRest} (option_reads version_reads) (λ x. x.offer) (λ a3 x. (IfSome x.skipped IsVersion × (IfSome x.excluded IsVersion × (IfSome x.last_check IsWide × (Unit {0} × (x ≡ record { current = a0; previous = a1; minimum = a2; offer = a3; skipped = x.skipped; excluded = x.excluded; last_check = x.last_check; checked = x.checked })))))) (λ x. option_field version_field x.skipped ++ (option_field version_field x.excluded ++ (option_field number_field x.last_check ++ (truth_field x.checked)))) (λ a3 bytes place. option_at version_at bytes place >>= λ p4. option_at version_at bytes p4.1 >>= λ p5. option_at wide_at bytes p5.1 >>= λ p6. truth_at bytes p6.1 >>= λ p7. Ok (record { current = a0; previous = a1; minimum = a2; offer = a3; skipped = p4.0; excluded = p5.0; last_check = p6.0; checked = p7.0 }, p7.1)) (λ a3 x is. ap (λ (y : AppRest). y.offer) is.1.1.1.1) (λ a3.
    first {X = AppRest} (option_reads version_reads) (λ x. x.skipped) (λ a4 x. (IfSome x.excluded IsVersion × (IfSome x.last_check IsWide × (Unit {0} × (x ≡ record { current = a0; previous = a1; minimum = a2; offer = a3; skipped = a4; excluded = x.excluded; last_check = x.last_check; checked = x.checked }))))) (λ x. option_field version_field x.excluded ++ (option_field number_field x.last_check ++ (truth_field x.checked))) (λ a4 bytes place. option_at version_at bytes place >>= λ p5. option_at wide_at bytes p5.1 >>= λ p6. truth_at bytes p6.1 >>= λ p7. Ok (record { current = a0; previous = a1; minimum = a2; offer = a3; skipped = a4; excluded = p5.0; last_check = p6.0; checked = p7.0 }, p7.1)) (λ a4 x is. ap (λ (y : AppRest). y.skipped) is.1.1.1) (λ a4.
    first {X = AppRest} (option_reads version_reads) (λ x. x.excluded) (λ a5 x. (IfSome x.last_check IsWide × (Unit {0} × (x ≡ record { current = a0; previous = a1; minimum = a2; offer = a3; skipped = a4; excluded = a5; last_check = x.last_check; checked = x.checked })))) (λ x. option_field number_field x.last_check ++ (truth_field x.checked)) (λ a5 bytes place. option_at wide_at bytes place >>= λ p6. truth_at bytes p6.1 >>= λ p7. Ok (record { current = a0; previous = a1; minimum = a2; offer = a3; skipped = a4; excluded = a5; last_check = p6.0; checked = p7.0 }, p7.1)) (λ a5 x is. ap (λ (y : AppRest). y.excluded) is.1.1) (λ a5.
    first {X = AppRest} (option_reads number64_reads) (λ x. x.last_check) (λ a6 x. (Unit {0} × (x ≡ record { current = a0; previous = a1; minimum = a2; offer = a3; skipped = a4; excluded = a5; last_check = a6; checked = x.checked }))) (λ x. truth_field x.checked) (λ a6 bytes place. truth_at bytes place >>= λ p7. Ok (record { current = a0; previous = a1; minimum = a2; offer = a3; skipped = a4; excluded = a5; last_check = a6; checked = p7.0 }, p7.1)) (λ a6 x is. ap (λ (y : AppRest). y.last_check) is.1) (λ a6.
    last {X = AppRest} truth_reads (λ x. x.checked) (λ a7. record { current = a0; previous = a1; minimum = a2; offer = a3; skipped = a4; excluded = a5; last_check = a6; checked = a7 }) (λ a7. refl)))))))))
    (λ x is. record { current = is.0; previous = is.1.0; minimum = is.1.1.0; offer = is.1.1.1.0; skipped = is.1.1.1.1.0; excluded = is.1.1.1.1.1.0; last_check = is.1.1.1.1.1.1.0 })
    (λ x is. (is.current, (is.previous, (is.minimum, (is.offer, (is.skipped, (is.excluded, (is.last_check, (tt, refl)))))))))

abbrev rest_of : AppState → AppRest
rest_of app = record {
  current = app.current;
  previous = app.previous;
  minimum = app.minimum;
  offer = app.offer;
  skipped = app.skipped;
  excluded = app.excluded;
  last_check = app.last_check;
  checked = app.checked;
}

pub app_reads : ReadsField IsEncodableApp app_field app_at
unfolding app_at app_field rest_field
app_reads = same_values IsEncodableApp (
    first {X = AppState} key_reads (λ x. x.key) (λ a0 x. IfSome x.provider IsTarget × (IsEncodableRest (rest_of x) × (x ≡ whole_app a0 x.provider (rest_of x)))) (λ x. option_field target_field x.provider ++ rest_text (rest_of x)) (λ a0 bytes place. option_at target_at bytes place >>= λ p1. rest_at bytes p1.1 >>= λ p2. Ok (whole_app a0 p1.0 p2.0, p2.1)) (λ a0 x is. ap (λ (y : AppState). y.key) is.1.1) (λ a0.
    first {X = AppState} (option_reads target_reads) (λ x. x.provider) (λ a1 x. IsEncodableRest (rest_of x) × (x ≡ whole_app a0 a1 (rest_of x))) (λ x. rest_text (rest_of x)) (λ a1 bytes place. rest_at bytes place >>= λ p2. Ok (whole_app a0 a1 p2.0, p2.1)) (λ a1 x is. ap (λ (y : AppState). y.provider) is.1) (λ a1.
    last {X = AppState} rest_reads rest_of (λ a2. whole_app a0 a1 a2) (λ a2. refl))))
    (λ x is. record { key = is.0; provider = is.1.0; current = is.1.1.0.current; previous = is.1.1.0.previous; minimum = is.1.1.0.minimum; offer = is.1.1.0.offer; skipped = is.1.1.0.skipped; excluded = is.1.1.0.excluded; last_check = is.1.1.0.last_check })
    (λ x is. (is.key, (is.provider, (record { current = is.current; previous = is.previous; minimum = is.minimum; offer = is.offer; skipped = is.skipped; excluded = is.excluded; last_check = is.last_check }, refl))))

-- ---- lists

record AreEncodableLists (lists : Lists) : Type 0 where
  few_leases : length lists.leases ≤ LEASE_LIMIT
  leases : All IsEncodableLease lists.leases
  few_views : length lists.views ≤ VIEW_LIMIT
  views : All (IsEncodableView COUNT_LIMIT) lists.views
  few_apps : length lists.apps ≤ APPLICATION_LIMIT
  apps : All IsEncodableApp lists.apps
  few_contents : length lists.contents ≤ FILE_COUNT_LIMIT
  contents : All IsEncodableContent lists.contents

abbrev lists_text : Lists → List ℕ
lists_text lists =
    list_field lease_field lists.leases ++ (list_field view_field lists.views
    ++ (list_field app_field lists.apps ++ list_field content_field lists.contents))

lists_reads : ReadsField AreEncodableLists lists_text lists_at
unfolding lists_at
lists_reads = same_values AreEncodableLists (
    first {X = Lists} (list_reads lease_reads LEASE_LIMIT (omega arith)) (λ x. x.leases) (λ a0 x. (((length x.views ≤ VIEW_LIMIT) × All (IsEncodableView COUNT_LIMIT) x.views) × (((length x.apps ≤ APPLICATION_LIMIT) × All IsEncodableApp x.apps) × (((length x.contents ≤ FILE_COUNT_LIMIT) × All IsEncodableContent x.contents) × (x ≡ record { leases = a0; views = x.views; apps = x.apps; contents = x.contents }))))) (λ x. list_field view_field x.views ++ (list_field app_field x.apps ++ (list_field content_field x.contents))) (λ a0 bytes place. list_at VIEW_LIMIT (view_at COUNT_LIMIT) bytes place >>= λ p1. list_at APPLICATION_LIMIT app_at bytes p1.1 >>= λ p2. list_at FILE_COUNT_LIMIT content_at bytes p2.1 >>= λ p3. Ok (record { leases = a0; views = p1.0; apps = p2.0; contents = p3.0 }, p3.1)) (λ a0 x is. ap (λ (y : Lists). y.leases) is.1.1.1) (λ a0.
    first {X = Lists} (list_reads (view_reads COUNT_LIMIT (omega arith)) VIEW_LIMIT (omega arith)) (λ x. x.views) (λ a1 x. (((length x.apps ≤ APPLICATION_LIMIT) × All IsEncodableApp x.apps) × (((length x.contents ≤ FILE_COUNT_LIMIT) × All IsEncodableContent x.contents) × (x ≡ record { leases = a0; views = a1; apps = x.apps; contents = x.contents })))) (λ x. list_field app_field x.apps ++ (list_field content_field x.contents)) (λ a1 bytes place. list_at APPLICATION_LIMIT app_at bytes place >>= λ p2. list_at FILE_COUNT_LIMIT content_at bytes p2.1 >>= λ p3. Ok (record { leases = a0; views = a1; apps = p2.0; contents = p3.0 }, p3.1)) (λ a1 x is. ap (λ (y : Lists). y.views) is.1.1) (λ a1.
    first {X = Lists} (list_reads app_reads APPLICATION_LIMIT (omega arith)) (λ x. x.apps) (λ a2 x. (((length x.contents ≤ FILE_COUNT_LIMIT) × All IsEncodableContent x.contents) × (x ≡ record { leases = a0; views = a1; apps = a2; contents = x.contents }))) (λ x. list_field content_field x.contents) (λ a2 bytes place. list_at FILE_COUNT_LIMIT content_at bytes place >>= λ p3. Ok (record { leases = a0; views = a1; apps = a2; contents = p3.0 }, p3.1)) (λ a2 x is. ap (λ (y : Lists). y.apps) is.1) (λ a2.
    last {X = Lists} (list_reads content_reads FILE_COUNT_LIMIT (omega arith)) (λ x. x.contents) (λ a3. record { leases = a0; views = a1; apps = a2; contents = a3 }) (λ a3. refl)))))
    (λ x is. record { few_leases = is.0.0; leases = is.0.1; few_views = is.1.0.0; views = is.1.0.1; few_apps = is.1.1.0.0; apps = is.1.1.0.1; few_contents = is.1.1.1.0.0; contents = is.1.1.1.0.1 })
    (λ x is. ((is.few_leases, is.leases), ((is.few_views, is.views), ((is.few_apps, is.apps), ((is.few_contents, is.contents), refl)))))

-- ---- tables

abbrev lists_of : Tables → Lists
lists_of t = record { leases = t.leases; views = t.views; apps = t.apps; contents = t.contents }

pub tables_reads : ReadsField IsEncodableState state_text tables_at
unfolding tables_at state_text lists_field
tables_reads = same_values IsEncodableState (
    first {X = Tables} number64_reads (λ x. x.boot) (λ a0 x. IsWide x.next_view × (IsWide x.next_lease × (AreEncodableLists (lists_of x) × (x ≡ tables_with a0 x.next_view x.next_lease (lists_of x))))) (λ x. number_field x.next_view ++ (number_field x.next_lease ++ lists_text (lists_of x))) (λ a0 bytes place. wide_at bytes place >>= λ p1. wide_at bytes p1.1 >>= λ p2. lists_at bytes p2.1 >>= λ p3. Ok (tables_with a0 p1.0 p2.0 p3.0, p3.1)) (λ a0 x is. ap (λ (y : Tables). y.boot) is.1.1.1) (λ a0.
    first {X = Tables} number64_reads (λ x. x.next_view) (λ a1 x. IsWide x.next_lease × (AreEncodableLists (lists_of x) × (x ≡ tables_with a0 a1 x.next_lease (lists_of x)))) (λ x. number_field x.next_lease ++ lists_text (lists_of x)) (λ a1 bytes place. wide_at bytes place >>= λ p2. lists_at bytes p2.1 >>= λ p3. Ok (tables_with a0 a1 p2.0 p3.0, p3.1)) (λ a1 x is. ap (λ (y : Tables). y.next_view) is.1.1) (λ a1.
    first {X = Tables} number64_reads (λ x. x.next_lease) (λ a2 x. AreEncodableLists (lists_of x) × (x ≡ tables_with a0 a1 a2 (lists_of x))) (λ x. lists_text (lists_of x)) (λ a2 bytes place. lists_at bytes place >>= λ p3. Ok (tables_with a0 a1 a2 p3.0, p3.1)) (λ a2 x is. ap (λ (y : Tables). y.next_lease) is.1) (λ a2.
    last {X = Tables} lists_reads lists_of (λ a3. tables_with a0 a1 a2 a3) (λ a3. refl)))))
    (λ x is. record { boot = is.0; next_view = is.1.0; next_lease = is.1.1.0; few_leases = is.1.1.1.0.few_leases; leases = is.1.1.1.0.leases; few_views = is.1.1.1.0.few_views; views = is.1.1.1.0.views; few_apps = is.1.1.1.0.few_apps; apps = is.1.1.1.0.apps; few_contents = is.1.1.1.0.few_contents; contents = is.1.1.1.0.contents })
    (λ x is. (is.boot, (is.next_view, (is.next_lease, (record { few_leases = is.few_leases; leases = is.leases; few_views = is.few_views; views = is.views; few_apps = is.few_apps; apps = is.apps; few_contents = is.few_contents; contents = is.contents }, refl)))))
