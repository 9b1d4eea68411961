-- A session without the bytes of its files: what tables have as it stands, the applications of its
-- open jobs, and what refusals are about.
use Rattle.std.specs.Prelude.{ℕ, List, length, map}
use Rattle.small_types.specs.declared.room.Room.{Room}
use Rattle.small_types.specs.declared.target.Target.{Target}
use Rattle.manifests.specs.declared.facts.Application.{Application}
use Rattle.manifests.specs.declared.facts.Deployment.{Deployment}
use Rattle.machine.specs.declared.app.AppState.{AppState}
use Rattle.machine.specs.declared.lease.Lease.{Lease}
use Rattle.machine.specs.Store.{Session}
use Rattle.machine.specs.Views.{DataFile, View}

pub record BareData : Type 0 where
  pub name : List ℕ
  pub length : ℕ

pub record BareView : Type 0 where
  pub number : ℕ
  pub deployment : Deployment
  pub application : Application
  pub base : Target
  pub groups : List (List ℕ)
  pub data_files : List BareData

pub record Shape : Type 0 where
  pub room : Room
  pub boot : ℕ
  pub next_view : ℕ
  pub next_lease : ℕ
  pub leases : List Lease
  pub views : List BareView
  pub apps : List AppState
  pub jobs : List Application

abbrev pub bare_data : DataFile → BareData
bare_data file = record { name = file.name; length = length file.bytes }

abbrev pub bare_view : View → BareView
bare_view view = record {
  number = view.number;
  deployment = view.deployment;
  application = view.application;
  base = view.base;
  groups = view.groups;
  data_files = map bare_data view.data_files;
}

abbrev pub shape_of : Session → Shape
shape_of session = record {
  room = session.store.room;
  boot = session.store.boot;
  next_view = session.store.next_view;
  next_lease = session.store.next_lease;
  leases = session.store.leases;
  views = map bare_view session.store.views;
  apps = session.store.apps;
  jobs = map (λ job. job.application) session.jobs;
}
