-- What is true of an install.
use Rattle.std.specs.Prelude.{◌≡◌, ◌≢◌, ◌⊎◌, ◌<◌, ◌≤◌, ◌+◌, ℕ, true, false, List, ◌∷◌, All, AllPairs, Any, Contains, IsSome, filter, length, map, sum_by, Some, IfSome, IsSomeAnd, option_and_then}
use Rattle.std.specs.declared.cmp.Ordering.TheVariants.{Less, Equal}
use Rattle.small_types.specs.declared.limits.TheConstants.{NUMBER_LIMIT}
use Rattle.small_types.specs.declared.target.Target.{Target}
use Rattle.small_types.specs.Name.{IsBelowPre}
use Rattle.identity.specs.declared.key.Key.{Key}
use Rattle.identity.specs.declared.version.Version.{Version}
use Rattle.identity.specs.Printed.{text_cmp}
use Rattle.identity.specs.Version.{IsBelow}
use Rattle.manifests.specs.declared.facts.Application.{Application}
use Rattle.manifests.specs.declared.facts.Deployment.{Deployment}
use Rattle.manifests.specs.declared.facts.FileEntry.{FileEntry}
use Rattle.manifests.specs.Facts.{AreApplicationFacts}
use Rattle.machine.specs.declared.reply.Reply.{Reply}
use Rattle.machine.specs.Blocks.{blocks_of, standing_files}
use Rattle.machine.specs.Current.{current_of, current_version}
use Rattle.machine.specs.Entries.{entry_of, key_cmp}
use Rattle.machine.specs.Installed.{AreFetched, Installed}
use Rattle.machine.specs.InstallRow.{InstallEffect, address_refusals, deployment_refusals, install_refusals, release_refusals}
use Rattle.machine.specs.Migrated.{Migrated}
use Rattle.machine.specs.Minimums.{minimum_of}
use Rattle.machine.specs.Rows.{AreExact, PassesAll}
use Rattle.machine.specs.Shape.{BareView, Shape, shape_of}
use Rattle.machine.specs.Sound.{Sound}
use Rattle.machine.specs.Store.{Session, Store, session_over}
use Rattle.machine.specs.Valid.{Ordered, Valid}
use Rattle.machine.specs.Views.{ContentKey, DataFile, ListedFile, content_key, is_required}
use Rattle.machine.specs.Wanted.{deployed_need, is_held, program_need, wanted}

-- an install that is refused nowhere has its effect
pub record IsInstall (url : List ℕ) (heard : List (List ℕ)) (now : ℕ) (old : Session)
    (reply : Reply) (new : Session) : Type 0 where
  pub moment : now ≤ NUMBER_LIMIT
  pub passes : PassesAll (install_refusals url heard (shape_of old))
  pub effect : InstallEffect url heard now old reply new

-- it leads from a valid store to one
abbrev pub InstallsKeepValid : Type 0
InstallsKeepValid = (url : List ℕ) (heard : List (List ℕ)) (now : ℕ) (old : Session)
    (reply : Reply) (new : Session) → IsInstall url heard now old reply new
    → Valid old.store → Valid new.store

-- and from a sound store to one
abbrev pub InstallsKeepSound : Type 0
InstallsKeepSound = (url : List ℕ) (heard : List (List ℕ)) (now : ℕ) (old : Session)
    (reply : Reply) (new : Session) → IsInstall url heard now old reply new
    → Sound old.store → Sound new.store

-- ---- the application

-- The new view is current, and the one that was is previous; the version is current. Every other
-- application stays.
pub record IsCurrent (d : Deployment) (number : ℕ) (old new : Store) : Type 0 where
  pub current : current_of d.identity.key new.apps ≡ Some number
  pub previous : option_and_then (λ app. app.previous) (entry_of d.identity.key new.apps)
      ≡ current_of d.identity.key old.apps
  pub version : current_version d.identity.key (shape_of (session_over new))
      ≡ Some d.identity.version
  pub others : (key : Key) → key_cmp d.identity.key key ≢ Equal
      → entry_of key new.apps ≡ entry_of key old.apps

abbrev pub InstallsAreCurrent : Type 0
InstallsAreCurrent = (url : List ℕ) (heard : List (List ℕ)) (now : ℕ) (old : Session)
    (reply : Reply) (new : Session) (is : IsInstall url heard now old reply new)
    → Ordered old.store → IsCurrent is.effect.deployment old.store.next_view old.store new.store

-- a minimum that held holds, or a version that is not below it does
abbrev pub InstallsKeepMinimums : Type 0
InstallsKeepMinimums = (url : List ℕ) (heard : List (List ℕ)) (now : ℕ) (old : Session)
    (reply : Reply) (new : Session) (key : Key) (minimum : Version)
    → IsInstall url heard now old reply new
    → minimum_of key old.store.apps ≡ Some minimum
    → IsSomeAnd (minimum_of key new.store.apps) (λ later. ¬ IsBelow later minimum)

-- the version is not below the minimum that then holds
abbrev pub InstallsReachMinimums : Type 0
InstallsReachMinimums = (url : List ℕ) (heard : List (List ℕ)) (now : ℕ) (old : Session)
    (reply : Reply) (new : Session) (is : IsInstall url heard now old reply new)
    → IfSome (minimum_of is.effect.deployment.identity.key new.store.apps)
    (λ minimum. ¬ IsBelow is.effect.deployment.identity.version minimum)

-- ---- refusals

-- the refusals of an address, and where the texts are heard those of the deployment and of the
-- release, are no free choices
pub record InstallRefusalsAreExact : Type 0 where
  pub address : (url : List ℕ) → AreExact (address_refusals url)
  pub deployment : (url text : List ℕ) (texts : List (List ℕ)) (shape : Shape)
      → AreExact (deployment_refusals url (text ∷ texts) shape)
  pub release : (url text other : List ℕ) (texts : List (List ℕ)) (shape : Shape)
      → AreExact (release_refusals url (text ∷ other ∷ texts) shape)

-- two installs from one store that heard the same have one reply
abbrev pub InstallsHaveOneReply : Type 0
InstallsHaveOneReply = (url : List ℕ) (heard : List (List ℕ)) (now : ℕ)
    (old : Session) (a b : Reply) (x y : Session) → InstallEffect url heard now old a x
    → InstallEffect url heard now old b y → a ≡ b

-- ---- migrations

-- there is one list of new data files at most
abbrev pub MigrationsAreOne : Type 0
MigrationsAreOne = (old : List DataFile) (old_files new_files : List FileEntry)
    (originals : List ListedFile) (a b : List DataFile)
    → Migrated old old_files new_files originals a → Migrated old old_files new_files originals b
    → a ≡ b

-- and there is one, where the old ones are in order, and the originals are the data files of an
-- application
abbrev pub MigrationsExist : Type 0
MigrationsExist = (old : List DataFile) (old_files : List FileEntry) (a : Application)
    (originals : List ListedFile) → AllPairs (λ (f g : DataFile). text_cmp f.name g.name ≡ Less) old
    → AreApplicationFacts a
    → map (λ file. file.entry) originals ≡ filter (λ entry. entry.local) a.files
    → (new : List DataFile) × Migrated old old_files a.files originals new

-- ---- updates

-- An install over a sound store leads to one in which the application has a previous view, a data
-- file is kept aside, and a listed program file does not stand.
pub record IsUpdate (old new : Store) : Type 0 where
  pub url : Target
  pub base : Target
  pub deployment : Deployment
  pub application : Application
  pub files : List ListedFile
  pub originals : List ListedFile
  pub now : ℕ
  pub before : Sound old
  pub fetched : AreFetched old application files originals
  pub installed : Installed url base deployment application files originals now old new
  pub after : Sound new
  pub previous : Any (λ app. IsSome app.previous) new.apps
  pub aside : Any (λ view. Any (λ file. IsBelowPre file.name) view.data_files) new.views
  pub absent : length files + length originals < length application.files

abbrev pub StoresMayBeUpdated : Type 0
StoresMayBeUpdated = (old new : Store) × IsUpdate old new

-- ---- wanted files

-- Each required program file has the content of a file that stands in a kept view, or of a wanted
-- one. A wanted one has no content of theirs, and no two have one. All data files are wanted. So
-- the wanted files take the blocks that are counted.
pub record AreWanted (views : List BareView) (a : Application) : Type 0 where
  pub each : (entry : FileEntry) → is_required entry ≡ true → Contains a.files entry
      → (is_held (standing_files views) entry ≡ true)
      ⊎ (is_held (filter is_required (wanted views a)) entry ≡ true)
  pub new : All (λ entry. is_held (standing_files views) entry ≡ false)
      (filter is_required (wanted views a))
  pub once : AllPairs (λ (e f : FileEntry). ◌≢◌ {A = ContentKey} (content_key e) (content_key f))
      (filter is_required (wanted views a))
  pub deployed : filter (λ entry. entry.local) (wanted views a)
      ≡ filter (λ entry. entry.local) a.files
  pub blocks : sum_by (λ entry. blocks_of entry.size) (wanted views a)
      ≡ program_need views a + deployed_need a

abbrev pub WantedFilesSuffice : Type 0
WantedFilesSuffice = (views : List BareView) (a : Application) → AreWanted views a
