-- The store of a client, and a session over it.
use Rattle.std.specs.Prelude.{ℕ, List, [], ◌==◌, if◌then◌else◌}
use Rattle.small_types.specs.declared.room.Room.{Room}
use Rattle.small_types.specs.declared.target.Target.{Target}
use Rattle.manifests.specs.declared.facts.Application.{Application}
use Rattle.manifests.specs.declared.facts.Deployment.{Deployment}
use Rattle.manifests.specs.declared.facts.FileEntry.{FileEntry}
use Rattle.machine.specs.declared.app.AppState.{AppState}
use Rattle.machine.specs.declared.lease.Lease.{Lease}
use Rattle.machine.specs.Views.{ListedFile, View}

-- A store: its room, which no line changes; the number of the last boot; the numbers
-- that the next view and the next lease get; leases and kept views in order of their numbers;
-- applications in order of their printed keys.
pub record Store : Type 0 where
  pub room : Room
  pub boot : ℕ
  pub next_view : ℕ
  pub next_lease : ℕ
  pub leases : List Lease
  pub views : List View
  pub apps : List AppState

-- the room of so many blocks in which any tables have room: its half is 0, which no journal has
abbrev pub plain_room : ℕ → Room
plain_room blocks = record { blocks = blocks; half = 0 }

-- the empty store of this room
abbrev pub empty : Room → Store
empty room = record {
  room = room;
  boot = 0;
  next_view = 1;
  next_lease = 1;
  leases = [];
  views = [];
  apps = [];
}

-- the store after a boot of that number: another number than the last one ends all leases
abbrev pub booted : ℕ → Store → Store
booted boot old = record old { boot = boot; leases = if old.boot == boot then old.leases else [] }

-- An open job of an installation: the address that was given, that of the application manifest, the
-- manifests, the files that are left, and those that it has.
pub record Job : Type 0 where
  pub number : ℕ
  pub url : Target
  pub base : Target
  pub deployment : Deployment
  pub application : Application
  pub left : List FileEntry
  pub files : List ListedFile

-- A session: its store, its open jobs, and the number that the next job gets. No command opens a
-- job yet.
pub record Session : Type 0 where
  pub store : Store
  pub jobs : List Job
  pub next_job : ℕ

-- a session as it begins
abbrev pub session_over : Store → Session
session_over store = record { store = store; jobs = []; next_job = 1 }
