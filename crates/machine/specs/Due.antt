-- Whether an application may start: by the version and the rule of its current view, by its entry
-- and the moment.
use Rattle.std.specs.Prelude.{ℕ, ◌+◌, Bool, true, false, not, ◌&&◌, ◌||◌, nat_le, nat_lt, Option, Some, None, option_and_then, option_map, if◌then◌else◌}
use Rattle.std.specs.declared.cmp.Ordering.{Ordering}
use Rattle.std.specs.declared.cmp.Ordering.TheVariants.{Equal}
use Rattle.identity.specs.declared.key.Key.{Key}
use Rattle.identity.specs.declared.version.Version.{Version}
use Rattle.identity.specs.Version.{version_cmp}
use Rattle.manifests.specs.declared.facts.Rule.{Rule}
use Rattle.manifests.specs.declared.facts.Rule.TheVariants.{Never, Before, Age}
use Rattle.machine.specs.declared.app.AppState.{AppState}
use Rattle.machine.specs.declared.due.Due.{Due}
use Rattle.machine.specs.declared.due.Due.TheVariants.{Required, CheckFirst, Offered, Clear}
use Rattle.machine.specs.Current.{current_bare}
use Rattle.machine.specs.Entries.{entry_of}
use Rattle.machine.specs.Installed.{above}
use Rattle.machine.specs.Shape.{Shape}

-- the same version
abbrev pub is_equal : Ordering → Bool
is_equal Equal = true
is_equal _ = false

abbrev pub is_version : Version → Option Version → Bool
is_version version None = false
is_version version (Some other) = is_equal (version_cmp version other)

-- the minimum, where it is above the version
abbrev pub required_by : Version → AppState → Option Version
required_by version app = above version app.minimum

-- the offer, where it is above the version, and neither skipped nor excluded
abbrev pub unless_declined : AppState → Option Version → Option Version
unless_declined app None = None
unless_declined app (Some offer) =
    if is_version offer app.skipped || is_version offer app.excluded then None else Some offer

abbrev pub offered_to : Version → AppState → Option Version
offered_to version app = unless_declined app (above version app.offer)

-- a check comes before each start
abbrev pub checks_first : Rule → Bool
checks_first Before = true
checks_first Never = false
checks_first (Age seconds) = false

-- by an age: no check has succeeded, the time has come, or the moment lies before the last check
abbrev pub is_old : ℕ → Option ℕ → ℕ → Bool
is_old seconds None now = true
is_old seconds (Some last) now = nat_le (last + seconds) now || nat_lt now last

abbrev pub check_due : Rule → Option ℕ → ℕ → Bool
check_due (Age seconds) last now = is_old seconds last now
check_due Never last now = false
check_due Before last now = false

-- the first that applies
abbrev pub first_due : Option Version → Bool → Option Version → Bool → Due
first_due (Some minimum) first offer due = Required minimum
first_due None true offer due = CheckFirst
first_due None false (Some version) due = Offered version
first_due None false None due = Clear due

abbrev pub due_of : Version → Rule → AppState → ℕ → Due
due_of version rule app now =
    first_due (required_by version app) (checks_first rule && not app.checked)
    (offered_to version app)
    (check_due rule app.last_check now)

-- for the application of the key at a moment, where it has a current view
abbrev pub due : Key → Shape → ℕ → Option Due
due key shape now =
    option_and_then (λ app. option_map
    (λ view. due_of view.deployment.identity.version view.deployment.rule app now)
    (current_bare key shape)) (entry_of key shape.apps)
