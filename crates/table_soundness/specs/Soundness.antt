-- The two parts of a sound store: what tables decide, and what the bytes of their contents decide.
use Rattle.std.specs.Prelude.{◌≡◌, ◌<◌, ℕ, List, All, length, slice_index_or, take}
use Rattle.small_types.specs.declared.room.Room.{Room}
use Rattle.digest_list.specs.Matches.{Matches}
use Rattle.machine.specs.Sound.{Sound}
use Rattle.machine.specs.Store.{Store}
use Rattle.machine.specs.Valid.{Valid}
use Rattle.store_state.specs.declared.view.Content.{Content}
use Rattle.store_state.specs.declared.view.View.{View}
use Rattle.store_state.specs.Kept.{AreTables}
use Rattle.store_state.specs.Shows.{Shows}
use Rattle.store_state.specs.Stored.{content_bytes}
use Rattle.store_state.specs.Tables.{Tables}

-- the application of the view is the one that its deployment lists
pub record IsOneRelease (view : View) : Type 0 where
  pub key : view.application.identity.key ≡ view.deployment.app.key
  pub version : view.application.identity.version ≡ view.deployment.app.version

-- the first of these views that is none has that number
pub record IsFirstOther (views : List View) (number : ℕ) : Type 0 where
  pub place : ℕ
  pub view : View
  pub within : place < length views
  pub stands : view ≡ slice_index_or views place view
  pub before : All IsOneRelease (take place views)
  pub other : ¬ IsOneRelease view
  pub is : view.number ≡ number

abbrev pub AreReleases : Tables → Type 0
AreReleases tables = All IsOneRelease tables.views

-- the bytes of the content on a disk with that image have its size and its digests
abbrev pub IsGood : Room → List ℕ → Content → Type 0
IsGood room image content = Matches content.list content.size (content_bytes room image content)

abbrev pub AreGood : Room → List ℕ → Tables → Type 0
AreGood room image tables = All (IsGood room image) tables.contents

pub record HasBothParts (room : Room) (image : List ℕ) (tables : Tables) : Type 0 where
  pub releases : AreReleases tables
  pub good : AreGood room image tables

-- both parts make a valid store sound
abbrev pub PartsAreSound : Type 0
PartsAreSound =
    (room : Room) (image : List ℕ) (tables : Tables) (store : Store)
    → Shows room tables image store → Valid store → HasBothParts room image tables → Sound store

-- a sound store has both
abbrev pub SoundHasParts : Type 0
SoundHasParts =
    (room : Room) (image : List ℕ) (tables : Tables) (store : Store)
    → Shows room tables image store → AreTables tables → Sound store
    → HasBothParts room image tables
