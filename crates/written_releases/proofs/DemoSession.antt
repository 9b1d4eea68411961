-- The session: two installs and a check, each answered.
use Rattle.std.proofs.Common.{◌≡◌, ◌∙◌, ◌⊎◌, ◌≤◌, ◌+◌, inl, inr, refl, sym, ap, subst, ℕ, true, List, [], ◌∷◌, map, All, Contains, Option, Some, None, Result, Ok, arith}
use Rattle.std.specs.Prelude.{◌&&◌, IsOk, codes, count_by, nat_le, not, option_and_then, option_map}
use Rattle.std.specs.List.{list_all}
use Rattle.std.proofs.lemmas.Bool.{and_parts, leb-true}
use Rattle.std.proofs.lemmas.Cmp.{tied_itself}
use Rattle.std.proofs.lemmas.List.Elements.{All-cons, All-nil}
use Rattle.std.proofs.lemmas.List.Kept.{AllPairs-cons}
use Rattle.std.proofs.lemmas.Option.{none-some, same_Some}
use Rattle.small_types.specs.declared.target.Target.{Target}
use Rattle.addresses.specs.declared.fault.UrlFault.{UrlFault}
use Rattle.addresses.specs.Join.{file_target_of}
use Rattle.identity.specs.Key.{key_text}
use Rattle.identity.specs.declared.version.Version.{Version}
use Rattle.identity.specs.Version.{IsBelow}
use Rattle.manifests.specs.declared.facts.FileEntry.{FileEntry}
use Rattle.manifests.specs.Applications.{is_below_pre}
use Rattle.machine.specs.declared.app.AppState.{AppState}
use Rattle.machine.specs.declared.event.Event.{Event}
use Rattle.machine.specs.declared.reply.Reply.{Reply}
use Rattle.machine.specs.declared.reply.Reply.TheVariants as says
use Rattle.machine.specs.CheckRow.{heard_app}
use Rattle.machine.specs.Current.{bare_data_of, bare_listed_by, bare_view_at, current_bare, current_version, current_view, data_of, listed_by, view_at}
use Rattle.machine.specs.Entries.{entry_of, fresh, with_entry}
use Rattle.machine.specs.Installed.{AreFetched, installed_app, new_view}
use Rattle.machine.specs.InstallRow.{locals_after, weight_installed, with_provider}
use Rattle.machine.specs.Laws.{EmptyStoresAreSound, RunsKeepSound}
use Rattle.machine.specs.Machine.{Run, Step}
use Rattle.machine.specs.Migrated.{IsAside, IsFresh, IsKept, Migrated, migrated_names}
use Rattle.machine.specs.Minimums.{minimum_of}
use Rattle.machine.specs.Shape.{BareView, Shape, bare_view, shape_of}
use Rattle.machine.specs.Sound.{IsWhole}
use Rattle.machine.specs.Store.{Session, empty, session_over}
use Rattle.machine.specs.Views.{ContentKey, DataFile, ListedFile, View, content_key}
use Rattle.machine.specs.Wanted.{copied_need, deployed_need, install_need, program_need}
use Rattle.machine.specs.Weight.{IsTooHeavy, app_weight, application_bytes, content_weight, data_weight, deployment_bytes, file_weight, identity_bytes, key_bytes, target_bytes, view_weight, weight_of}
use Rattle.machine.specs.Words.{IsEvent, IsUrl}
use Rattle.machine.proofs.EntryOrder.{order}
use Rattle.written_releases.specs.declared.example.TheConstants.{FIRST, SECOND, THIRD}
use Rattle.written_releases.specs.Installable.{IsInstallable}
use Rattle.written_releases.specs.TwoReleases.{application, check_line, demo_key, deployment, install_line, program, release, small_room, url, version, TwoReleasesCome}
use Rattle.written_releases.specs.Written.{IsWrittenDeployment}
use Rattle.written_releases.proofs.DemoAddresses.{base, base_joined, file, file_joined, given, url_read}
use Rattle.written_releases.proofs.DemoManifests.{file_of, is_key, one, single, whole, written_deployment, written_release}
use Rattle.written_releases.proofs.AnsweredCheck.{after_check, check_step}
use Rattle.written_releases.proofs.AnsweredInstall.{after, install_step}

-- ---- addresses

fine : (read : Result Target UrlFault) (x : Target) → read ≡ Ok x → IsOk read
fine read x is = subst (λ (r : Result Target UrlFault). IsOk r) (sym is) refl

program_fine : (number : ℕ) → All (λ (entry : FileEntry). IsOk (file_target_of base true entry.name)) (program number ∷ [])
program_fine number = one (λ (entry : FileEntry). IsOk (file_target_of base true entry.name)) (program number) (fine (file_target_of base true (codes "demo.exe")) file file_joined)

-- ---- no data files

no_contained : {X : Type 0} (x : X) → Contains [] x → ⊥
no_contained x there = omega (arith, there.1)

none_migrated : (old_files new_files : List FileEntry) → Migrated [] old_files new_files [] []
none_migrated old_files new_files = record {
  order = λ i j d lt within. absurd (omega arith);
  files = λ left. ((λ there. absurd (no_contained left there)), (λ came. absurd (by left came)));
}
  where
    by : (left : DataFile) → IsKept [] old_files new_files left ⊎ IsAside [] old_files new_files left ⊎ IsFresh [] old_files new_files [] left → ⊥
    by left (inl kept) = no_contained left kept.there
    by left (inr (inl aside)) = no_contained aside.from aside.there
    by left (inr (inr came)) = no_contained came.original came.deployed

-- ---- the first install

abbrev start : Session
start = session_over (empty small_room)

abbrev first_bare : BareView
first_bare = bare_view (new_view 1 base (deployment FIRST) (application FIRST) (file_of FIRST ∷ []) [])

first_weight : weight_installed given base (deployment FIRST) (application FIRST) (shape_of start) ≡ weight_of (first_bare ∷ []) (with_provider given (fresh demo_key) ∷ [])
first_weight = refl

first_few : weight_of (first_bare ∷ []) (with_provider given (fresh demo_key) ∷ []) ≤ 200000
unfolding weight_of app_weight view_weight content_weight file_weight data_weight key_bytes target_bytes identity_bytes deployment_bytes application_bytes
first_few = omega arith

first_light : ¬ IsTooHeavy small_room (weight_installed given base (deployment FIRST) (application FIRST) (shape_of start))
first_light heavy = let over = heavy.1 in omega (arith, over, first_weight, first_few)

abbrev first_may : IsInstallable url (shape_of start) (deployment FIRST) (application FIRST)
first_may = record {
  target = given;
  read = url_read;
  base = base;
  joined = base_joined;
  provider = given;
  provided = refl;
  addresses = program_fine FIRST;
  newer = λ have is. absurd (none-some have is);
  reached = λ minimum is. absurd (none-some minimum is);
  entry = λ lacks. (let full = lacks.1 in absurd (omega (arith, full)));
  views = omega arith;
  number = omega arith;
  files = omega arith;
  locals = omega arith;
  blocks = omega arith;
  tables = first_light;
}

first_fetched : AreFetched start.store (application FIRST) (file_of FIRST ∷ []) []
first_fetched = record {
  required = refl;
  deployed = refl;
  whole = one IsWhole (file_of FIRST) (whole FIRST);
  whole_data = All-nil IsWhole;
  shared = single (λ (f g : ListedFile). content_key f.entry ≡ content_key g.entry → f.bytes ≡ g.bytes) (file_of FIRST);
}

abbrev installed : Session
installed = after (release FIRST) (written_release FIRST (omega arith)) url start first_may 0 (file_of FIRST ∷ []) [] first_fetched [] (none_migrated [] (application FIRST).files)

first_step : Step 0 start (install_line FIRST) (Some (says.Installed demo_key (version FIRST) 1)) installed
first_step = install_step (release FIRST) (written_release FIRST (omega arith)) url start first_may 0 (file_of FIRST ∷ []) [] first_fetched [] (none_migrated [] (application FIRST).files)

-- ---- the store that it leaves

abbrev first_app : AppState
first_app = installed_app 1 (deployment FIRST) given 0 (fresh demo_key)

abbrev first_view : View
first_view = new_view 1 base (deployment FIRST) (application FIRST) (file_of FIRST ∷ []) []

found : entry_of demo_key (first_app ∷ []) ≡ Some first_app
found = rw (tied_itself order (key_text demo_key)) refl

abbrev shape : Shape
shape = shape_of installed

bare_is : current_bare demo_key shape ≡ Some (bare_view first_view)
bare_is = ap (λ (e : Option AppState). option_and_then (λ (n : ℕ). bare_view_at n shape.views) (option_and_then (λ (app : AppState). app.current) e)) found

view_is : current_view demo_key installed.store ≡ Some first_view
view_is = ap (λ (e : Option AppState). option_and_then (λ (n : ℕ). view_at n installed.store.views) (option_and_then (λ (app : AppState). app.current) e)) found

version_is : current_version demo_key shape ≡ Some (version FIRST)
version_is = ap (option_map (λ (view : BareView). view.deployment.identity.version)) bare_is

minimum_is : minimum_of demo_key shape.apps ≡ None
minimum_is = ap (option_and_then (λ (app : AppState). app.minimum)) found

-- ---- the second install

locals_are : locals_after shape (deployment SECOND) (application SECOND) ≡ 0
locals_are = ap (λ (old : Option BareView). count_by (λ name. not (is_below_pre name))
    (migrated_names (map (λ file. file.name) (bare_data_of old)) (bare_listed_by old) (application SECOND).files)) bare_is

need_is : install_need shape (deployment SECOND) (application SECOND) ≡ 1
need_is = ap (λ (old : Option BareView). program_need shape.views (application SECOND) + deployed_need (application SECOND) + copied_need (bare_data_of old)) bare_is

abbrev second_bare : BareView
second_bare = bare_view (new_view 2 base (deployment SECOND) (application SECOND) (file_of SECOND ∷ []) [])

weight_is : weight_installed given base (deployment SECOND) (application SECOND) shape ≡ weight_of (bare_view first_view ∷ second_bare ∷ []) (with_provider given first_app ∷ [])
weight_is = rw (tied_itself order (key_text demo_key)) refl

weight_few : weight_of (bare_view first_view ∷ second_bare ∷ []) (with_provider given first_app ∷ []) ≤ 200000
unfolding weight_of app_weight view_weight content_weight file_weight data_weight key_bytes target_bytes identity_bytes deployment_bytes application_bytes
weight_few = omega arith

second_light : ¬ IsTooHeavy small_room (weight_installed given base (deployment SECOND) (application SECOND) shape)
second_light heavy = let over = heavy.1 in omega (arith, over, weight_is, weight_few)

above_first : (have : Version) → current_version demo_key shape ≡ Some have → IsBelow have (version SECOND)
above_first have is = subst (λ (v : Version). IsBelow v (version SECOND)) (same_Some (version FIRST) have (sym version_is ∙ is)) (inl (omega arith))

no_minimum : (minimum : Version) → minimum_of demo_key shape.apps ≡ Some minimum → ⊥
no_minimum minimum is = none-some minimum (sym minimum_is ∙ is)

abbrev second_may : IsInstallable url shape (deployment SECOND) (application SECOND)
second_may = record {
  target = given;
  read = url_read;
  base = base;
  joined = base_joined;
  provider = given;
  provided = refl;
  addresses = program_fine SECOND;
  newer = above_first;
  reached = λ minimum is. absurd (no_minimum minimum is);
  entry = λ lacks. (let full = lacks.1 in absurd (omega (arith, full)));
  views = omega arith;
  number = omega arith;
  files = omega arith;
  locals = omega (arith, locals_are);
  blocks = omega (arith, need_is);
  tables = second_light;
}

abbrev AreShared : ListedFile → ListedFile → Type 0
AreShared f g = content_key f.entry ≡ content_key g.entry → f.bytes ≡ g.bytes

apart : AreShared (file_of FIRST) (file_of SECOND)
apart same = absurd (differ (ap (λ (k : ContentKey). k.size) same))
  where
    differ : ◌≡◌ {A = ℕ} FIRST SECOND → ⊥
    differ e = omega (arith, e)

second_fetched : AreFetched installed.store (application SECOND) (file_of SECOND ∷ []) []
second_fetched = record {
  required = refl;
  deployed = refl;
  whole = one IsWhole (file_of SECOND) (whole SECOND);
  whole_data = All-nil IsWhole;
  shared = AllPairs-cons AreShared (file_of FIRST) (file_of SECOND ∷ []) (one (AreShared (file_of FIRST)) (file_of SECOND) apart) (single AreShared (file_of SECOND));
}

second_migrated : Migrated (data_of (current_view demo_key installed.store)) (listed_by (current_view demo_key installed.store)) (application SECOND).files [] []
second_migrated = subst (λ (view : Option View). Migrated (data_of view) (listed_by view) (application SECOND).files [] []) (sym view_is)
    (none_migrated (application FIRST).files (application SECOND).files)

abbrev updated : Session
updated = after (release SECOND) (written_release SECOND (omega arith)) url installed second_may 0 (file_of SECOND ∷ []) [] second_fetched [] second_migrated

second_step : Step 0 installed (install_line SECOND) (Some (says.Installed demo_key (version SECOND) 2)) updated
second_step = install_step (release SECOND) (written_release SECOND (omega arith)) url installed second_may 0 (file_of SECOND ∷ []) [] second_fetched [] second_migrated

-- ---- the check

abbrev second_app : AppState
second_app = installed_app 2 (deployment SECOND) given 0 first_app

updated_apps : updated.store.apps ≡ second_app ∷ []
updated_apps = rw (tied_itself order (key_text demo_key)) refl

second_found : entry_of demo_key (second_app ∷ []) ≡ Some second_app
second_found = rw (tied_itself order (key_text demo_key)) refl

entry_is : entry_of demo_key updated.store.apps ≡ Some second_app
entry_is = ap (entry_of demo_key) updated_apps ∙ second_found

second_version : current_version demo_key (shape_of updated) ≡ Some (version SECOND)
second_version = ap (λ (e : Option AppState). option_map (λ (view : BareView). view.deployment.identity.version)
    (option_and_then (λ (n : ℕ). bare_view_at n (shape_of updated).views) (option_and_then (λ (app : AppState). app.current) e))) entry_is

abbrev third_written : IsWrittenDeployment (deployment THIRD) (codes "demo") (codes "demo")
third_written = written_deployment THIRD (omega arith)

abbrev last : Session
last = after_check 0 updated (deployment THIRD) (codes "demo") (codes "demo") (version SECOND) third_written second_version

abbrev third_app : AppState
third_app = heard_app (version SECOND) (version THIRD) None 0 second_app

last_apps : last.store.apps ≡ third_app ∷ []
last_apps = ap (with_entry demo_key (heard_app (version SECOND) (version THIRD) None 0)) updated_apps ∙ changed
  where
    changed : with_entry demo_key (heard_app (version SECOND) (version THIRD) None 0) (second_app ∷ []) ≡ third_app ∷ []
    changed = rw (tied_itself order (key_text demo_key)) refl

last_found : entry_of demo_key (third_app ∷ []) ≡ Some third_app
last_found = rw (tied_itself order (key_text demo_key)) refl

last_minimum : minimum_of demo_key last.store.apps ≡ None
last_minimum = ap (option_and_then (λ (app : AppState). app.minimum)) (ap (entry_of demo_key) last_apps ∙ last_found)

third_step : Step 0 updated (check_line THIRD) (Some (says.Checked (Some (version THIRD)) None)) last
third_step = subst (λ (minimum : Option Version). Step 0 updated (check_line THIRD) (Some (says.Checked (Some (version THIRD)) minimum)) last) last_minimum
    (check_step 0 updated (deployment THIRD) (codes "demo") (codes "demo") (version SECOND) third_written second_version)

-- ---- the run

abbrev events : List Event
events = install_line FIRST ∷ install_line SECOND ∷ check_line THIRD ∷ []

abbrev replies : List (Option Reply)
replies = Some (says.Installed demo_key (version FIRST) 1) ∷ Some (says.Installed demo_key (version SECOND) 2) ∷ Some (says.Checked (Some (version THIRD)) None) ∷ []

run : Run 0 start events replies last
run = (installed, first_step, (updated, second_step, (last, third_step, refl)))

visible : (bytes : List ℕ) → list_all (λ b. nat_le 33 b && nat_le b 126) bytes ≡ true → All (λ (b : ℕ). (33 ≤ b) × (b ≤ 126)) bytes
visible [] are = All-nil (λ (b : ℕ). (33 ≤ b) × (b ≤ 126))
visible (b ∷ bs) are =
    let parts = and_parts (nat_le 33 b && nat_le b 126) (list_all (λ b. nat_le 33 b && nat_le b 126) bs) are in
    let two = and_parts (nat_le 33 b) (nat_le b 126) parts.0 in
    All-cons (λ (b : ℕ). (33 ≤ b) × (b ≤ 126)) b bs (leb-true 33 b two.0, leb-true b 126 two.1) (visible bs parts.1)

is_url : IsUrl url
is_url = record { some = omega arith; few = omega arith; visible = visible url refl }

are_events : All IsEvent events
are_events =
    All-cons IsEvent (install_line FIRST) (install_line SECOND ∷ check_line THIRD ∷ []) (is_url, omega arith)
    (All-cons IsEvent (install_line SECOND) (check_line THIRD ∷ []) (is_url, omega arith) (one IsEvent (check_line THIRD) (is_key, omega arith)))

pub session : EmptyStoresAreSound → RunsKeepSound → TwoReleasesCome
session empty_sound runs_sound = record {
  last = last;
  run = run;
  sound = runs_sound 0 start events replies last are_events run (empty_sound small_room (omega arith) (omega arith) (λ some. omega arith));
  views = refl;
}
