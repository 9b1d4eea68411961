-- What requiring a version of a key comes to where it is not refused.
use Rattle.std.specs.Prelude.{◌≡◌, ◌≢◌, List}
use Rattle.identity.specs.declared.key.Key.{Key}
use Rattle.identity.specs.declared.version.Version.{Version}
use Rattle.machine.specs.declared.app.AppState.{AppState}
use Rattle.machine.specs.Minimums.{minimum_of, raised}
use Rattle.machine.specs.RequireRow.{required}

-- the minimum of the key is not below the version, and nothing changes
pub record Stays (key : Key) (version held : Version) (apps : List AppState) : Type 0 where
  pub same : required key version apps ≡ apps
  pub minimum : raised (minimum_of key apps) version ≡ held

-- the version becomes the minimum of the key, which it was not
pub record Raises (key : Key) (version : Version) (apps : List AppState) : Type 0 where
  pub other : required key version apps ≢ apps
  pub minimum : raised (minimum_of key apps) version ≡ version
