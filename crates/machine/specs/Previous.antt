-- The previous view of an application, and the versions that numbers of views stand for.
use Rattle.std.specs.Prelude.{ℕ, List, Option, option_and_then, option_map}
use Rattle.identity.specs.declared.key.Key.{Key}
use Rattle.identity.specs.declared.version.Version.{Version}
use Rattle.machine.specs.declared.app.AppState.{AppState}
use Rattle.machine.specs.Current.{bare_view_at, view_at}
use Rattle.machine.specs.Entries.{entry_of}
use Rattle.machine.specs.Shape.{BareView, Shape}
use Rattle.machine.specs.Store.{Store}
use Rattle.machine.specs.Views.{View}

-- its number, where the key has an entry with one
abbrev pub previous_of : Key → List AppState → Option ℕ
previous_of key apps = option_and_then (λ app. app.previous) (entry_of key apps)

-- in a store
abbrev pub previous_view : Key → Store → Option View
previous_view key store =
    option_and_then (λ number. view_at number store.views) (previous_of key store.apps)

-- ---- in a store without the bytes of its files

-- the view of that number, where there is one
abbrev pub numbered_bare : Option ℕ → Shape → Option BareView
numbered_bare number shape = option_and_then (λ n. bare_view_at n shape.views) number

-- its version
abbrev pub numbered_version : Option ℕ → Shape → Option Version
numbered_version number shape =
    option_map (λ view. view.deployment.identity.version) (numbered_bare number shape)

-- the version that is previous
abbrev pub previous_version : Key → Shape → Option Version
previous_version key shape = numbered_version (previous_of key shape.apps) shape
