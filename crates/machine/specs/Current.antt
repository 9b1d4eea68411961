-- The current view of an application.
use Rattle.std.specs.Prelude.{ℕ, ◌==◌, List, [], find, Option, Some, None, option_and_then, option_map}
use Rattle.identity.specs.declared.key.Key.{Key}
use Rattle.identity.specs.declared.version.Version.{Version}
use Rattle.manifests.specs.declared.facts.FileEntry.{FileEntry}
use Rattle.machine.specs.declared.app.AppState.{AppState}
use Rattle.machine.specs.Entries.{entry_of}
use Rattle.machine.specs.Shape.{BareData, BareView, Shape}
use Rattle.machine.specs.Store.{Store}
use Rattle.machine.specs.Views.{DataFile, View}

-- its number, where the key has an entry with one
abbrev pub current_of : Key → List AppState → Option ℕ
current_of key apps = option_and_then (λ app. app.current) (entry_of key apps)

-- ---- in a store

abbrev pub view_at : ℕ → List View → Option View
view_at number views = find (λ view. view.number == number) views

abbrev pub current_view : Key → Store → Option View
current_view key store =
    option_and_then (λ number. view_at number store.views) (current_of key store.apps)

-- the data files of a view, and the files that its release lists; of no view there are none
abbrev pub data_of : Option View → List DataFile
data_of None = []
data_of (Some view) = view.data_files

abbrev pub listed_by : Option View → List FileEntry
listed_by None = []
listed_by (Some view) = view.application.files

-- ---- in a store without the bytes of its files

abbrev pub bare_view_at : ℕ → List BareView → Option BareView
bare_view_at number views = find (λ view. view.number == number) views

abbrev pub current_bare : Key → Shape → Option BareView
current_bare key shape =
    option_and_then (λ number. bare_view_at number shape.views) (current_of key shape.apps)

abbrev pub bare_data_of : Option BareView → List BareData
bare_data_of None = []
bare_data_of (Some view) = view.data_files

abbrev pub bare_listed_by : Option BareView → List FileEntry
bare_listed_by None = []
bare_listed_by (Some view) = view.application.files

-- the version that is current
abbrev pub current_version : Key → Shape → Option Version
current_version key shape =
    option_map (λ view. view.deployment.identity.version) (current_bare key shape)
