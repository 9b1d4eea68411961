-- The tables: what the code holds of a store.
use Rattle.std.specs.Prelude.{ℕ, List, [], map}
use Rattle.small_types.specs.declared.room.Room.{Room}
use Rattle.machine.specs.declared.app.AppState.{AppState}
use Rattle.machine.specs.declared.lease.Lease.{Lease}
use Rattle.machine.specs.Shape.{BareData, BareView, Shape}
use Rattle.store_state.specs.declared.view.Content.{Content}
use Rattle.store_state.specs.declared.view.LocalFile.{LocalFile}
use Rattle.store_state.specs.declared.view.View.{View}

-- The number of the last boot; the numbers that the next view and the next lease get; leases and
-- views in order of their numbers; applications in order of their printed keys; and the contents of
-- the program files that stand in views.
pub record Tables : Type 0 where
  pub boot : ℕ
  pub next_view : ℕ
  pub next_lease : ℕ
  pub leases : List Lease
  pub views : List View
  pub apps : List AppState
  pub contents : List Content

abbrev pub empty : Tables
empty = record {
  boot = 0;
  next_view = 1;
  next_lease = 1;
  leases = [];
  views = [];
  apps = [];
  contents = [];
}

-- ---- what they have of a session over a store of this room in which no job is open: all but the
-- bytes of the store's files

abbrev pub bare_local : LocalFile → BareData
bare_local file = record { name = file.name; length = file.length }

abbrev pub bare_row : View → BareView
bare_row view = record {
  number = view.number;
  deployment = view.deployment;
  application = view.application;
  base = view.base;
  groups = view.groups;
  data_files = map bare_local view.locals;
}

abbrev pub table_shape : Room → Tables → Shape
table_shape room tables = record {
  room = room;
  boot = tables.boot;
  next_view = tables.next_view;
  next_lease = tables.next_lease;
  leases = tables.leases;
  views = map bare_row tables.views;
  apps = tables.apps;
  jobs = [];
}
