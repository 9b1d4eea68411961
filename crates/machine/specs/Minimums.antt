-- The version below which an application does not run.
use Rattle.std.specs.Prelude.{List, Option, Some, None, option_and_then}
use Rattle.identity.specs.declared.key.Key.{Key}
use Rattle.identity.specs.declared.version.Version.{Version}
use Rattle.identity.specs.Version.{greater_of}
use Rattle.machine.specs.declared.app.AppState.{AppState}
use Rattle.machine.specs.Entries.{entry_of}

-- the minimum of the key, where there is one
abbrev pub minimum_of : Key → List AppState → Option Version
minimum_of key apps = option_and_then (λ app. app.minimum) (entry_of key apps)

-- the greater of the minimum that holds, where one does, and the version
abbrev pub raised : Option Version → Version → Version
raised None version = version
raised (Some minimum) version = greater_of minimum version

-- the application, with its minimum raised
abbrev pub raised_app : Version → AppState → AppState
raised_app version app = record app { minimum = Some (raised app.minimum version) }
