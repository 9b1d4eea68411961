-- Views and applications of the tables, by numbers, keys and places.
use Rattle.std.specs.Prelude.{ℕ, ◌==◌, List, [], find, map, sum_by, length, Option, Some, None, option_and_then, option_map, slice_get, slice_set, unwrap_or, if◌then◌else◌}
use Rattle.identity.specs.declared.key.Key.{Key}
use Rattle.identity.specs.declared.version.Version.{Version}
use Rattle.manifests.specs.declared.facts.FileEntry.{FileEntry}
use Rattle.machine.specs.declared.app.AppState.{AppState}
use Rattle.machine.specs.Current.{current_of}
use Rattle.machine.specs.Leases.{lease_of}
use Rattle.machine.specs.Previous.{previous_of}
use Rattle.store_state.specs.declared.view.LocalFile.{LocalFile}
use Rattle.store_state.specs.declared.view.View.{View}
use Rattle.store_state.specs.Tables.{Tables}

-- the view of the number
abbrev pub row_at : ℕ → List View → Option View
row_at number views = find (λ view. view.number == number) views

-- the view that is current for the key
abbrev pub current_row : Key → Tables → Option View
current_row key tables =
    option_and_then (λ number. row_at number tables.views) (current_of key tables.apps)

-- the data files of a view, and the files that its application lists; of no view there are none
abbrev pub row_locals : Option View → List LocalFile
row_locals None = []
row_locals (Some view) = view.locals

abbrev pub row_files : Option View → List FileEntry
row_files None = []
row_files (Some view) = view.application.files

-- its version
abbrev pub current_version : Key → Tables → Option Version
current_version key tables =
    option_map (λ view. view.deployment.identity.version) (current_row key tables)

-- the view that is previous for the key
abbrev pub previous_row : Key → Tables → Option View
previous_row key tables =
    option_and_then (λ number. row_at number tables.views) (previous_of key tables.apps)

-- the view that the lease of the number names
abbrev pub leased_row : ℕ → Tables → Option View
leased_row number tables =
    option_and_then (λ lease. row_at lease.view tables.views) (lease_of number tables.leases)

-- the views once that of the number is what f makes of it
abbrev pub with_row : ℕ → (View → View) → List View → List View
with_row number f views = map (λ view. if view.number == number then f view else view) views

-- how many files the views list
abbrev pub listed_files : List View → ℕ
listed_files views = sum_by (λ view. length view.application.files) views

-- ---- applications by their places, counted from 0

-- the number of the view that is current for the application at the place
abbrev pub current_at : ℕ → List AppState → Option ℕ
current_at place apps = option_and_then (λ app. app.current) (slice_get apps place)

-- the number of the view that is previous for it
abbrev pub previous_at : ℕ → List AppState → Option ℕ
previous_at place apps = option_and_then (λ app. app.previous) (slice_get apps place)

-- these views, and the version that is current for the application at the place
abbrev pub current_row_at : ℕ → Tables → Option View
current_row_at place tables =
    option_and_then (λ number. row_at number tables.views) (current_at place tables.apps)

abbrev pub previous_row_at : ℕ → Tables → Option View
previous_row_at place tables =
    option_and_then (λ number. row_at number tables.views) (previous_at place tables.apps)

abbrev pub version_at : ℕ → Tables → Option Version
version_at place tables =
    option_map (λ view. view.deployment.identity.version) (current_row_at place tables)

-- the version that is offered to the application at the place
abbrev pub offer_at : ℕ → List AppState → Option Version
offer_at place apps = option_and_then (λ app. app.offer) (slice_get apps place)

-- the applications once that at the place is what f makes of it
abbrev pub with_app : ℕ → (AppState → AppState) → List AppState → List AppState
with_app place f apps =
    unwrap_or (option_map (λ app. slice_set apps place (f app)) (slice_get apps place)) apps
