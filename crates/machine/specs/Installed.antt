-- The store once a release is installed.
use Rattle.std.specs.Prelude.{◌≡◌, ℕ, ◌+◌, true, List, [], ◌∷◌, ◌++◌, All, filter, map, Option, Some, None, Ok, if◌then◌else◌}
use Rattle.std.specs.Ordering.{is_lt}
use Rattle.small_types.specs.declared.target.Target.{Target}
use Rattle.addresses.specs.Address.{target_of_text}
use Rattle.identity.specs.declared.version.Version.{Version}
use Rattle.identity.specs.Version.{version_cmp}
use Rattle.manifests.specs.declared.facts.Application.{Application}
use Rattle.manifests.specs.declared.facts.Deployment.{Deployment}
use Rattle.machine.specs.declared.app.AppState.{AppState}
use Rattle.machine.specs.Current.{current_view, data_of, listed_by}
use Rattle.machine.specs.Entries.{with_entry}
use Rattle.machine.specs.Migrated.{Migrated}
use Rattle.machine.specs.Minimums.{raised}
use Rattle.machine.specs.Sound.{IsWhole, ShareBytes, program_files_of}
use Rattle.machine.specs.Store.{Store}
use Rattle.machine.specs.Views.{DataFile, ListedFile, View, is_required}

-- ---- the files that it brings

-- Each required program file and each deployed data file, with bytes that match what is listed.
-- Files with equal content keys have equal bytes, also those that kept views have.
pub record AreFetched (store : Store) (a : Application) (files originals : List ListedFile) :
    Type 0 where
  pub required : map (λ file. file.entry) files ≡ filter is_required a.files
  pub deployed : map (λ file. file.entry) originals ≡ filter (λ entry. entry.local) a.files
  pub whole : All IsWhole files
  pub whole_data : All IsWhole originals
  pub shared : ShareBytes (program_files_of store ++ files)

-- ---- the application

-- its provider: the manifest's, or the given address where the manifest gives none
abbrev pub IsProvidedBy : Target → Option (List ℕ) → Target → Type 0
IsProvidedBy given None provider = provider ≡ given
IsProvidedBy given (Some text) provider = target_of_text text ≡ Ok provider

-- the greater of the old minimum and the heard one
abbrev pub raised_by : Option Version → Option Version → Option Version
raised_by None old = old
raised_by (Some heard) old = Some (raised old heard)

-- a version above the installed one; any other is dropped
abbrev pub above : Version → Option Version → Option Version
above installed None = None
above installed (Some version) =
    if is_lt (version_cmp installed version) then Some version else None

-- the view of that number is current, and the one that was is previous
abbrev pub installed_app : ℕ → Deployment → Target → ℕ → AppState → AppState
installed_app number d provider now app = record app {
  provider = Some provider;
  current = Some number;
  previous = app.current;
  minimum = raised_by d.minimum app.minimum;
  offer = above d.identity.version app.offer;
  skipped = above d.identity.version app.skipped;
  excluded = above d.identity.version app.excluded;
  last_check = Some now;
  checked = true;
}

-- ---- the store

-- the view of the release; no group stands yet
abbrev pub new_view : ℕ → Target → Deployment → Application → List ListedFile → List DataFile → View
new_view number base d a files data_files = record {
  number = number;
  deployment = d;
  application = a;
  base = base;
  groups = [];
  program_files = files;
  data_files = data_files;
}

-- the store with one more view, which is the application's current one
abbrev pub with_view :
    Target → Target → Deployment → Application → List ListedFile → List DataFile → ℕ → Store → Store
with_view provider base d a files data_files now old = record old {
  next_view = old.next_view + 1;
  views = old.views ++ new_view old.next_view base d a files data_files ∷ [];
  apps = with_entry d.identity.key (installed_app old.next_view d provider now) old.apps;
}

-- new is old once the release that was read at this address is installed, with its application
-- manifest at the base
pub record Installed (url base : Target) (d : Deployment) (a : Application)
    (files originals : List ListedFile) (now : ℕ) (old new : Store) : Type 0 where
  pub provider : Target
  pub provided : IsProvidedBy url d.provider provider
  pub data_files : List DataFile
  pub migrated : Migrated (data_of (current_view d.identity.key old))
      (listed_by (current_view d.identity.key old)) a.files originals data_files
  pub is : new ≡ with_view provider base d a files data_files now old
