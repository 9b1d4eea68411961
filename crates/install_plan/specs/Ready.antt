-- What an install comes to once all that it wants is fetched: a change of the tables, and a reply.
use Rattle.std.specs.Prelude.{◌≡◌, ◌≤◌, ℕ, List, [], ◌∷◌, ◌++◌, length}
use Rattle.small_types.specs.declared.room.Room.{Room}
use Rattle.small_types.specs.declared.limits.TheConstants.{FILE_COUNT_LIMIT}
use Rattle.identity.specs.declared.key.Key.{Key}
use Rattle.identity.specs.declared.version.Version.{Version}
use Rattle.machine.specs.declared.reply.Reply.{Reply}
use Rattle.machine.specs.declared.reply.Reply.TheVariants.{Installed}
use Rattle.machine.specs.InstallRow.{HearsRelease, InstallEffect, install_refusals}
use Rattle.machine.specs.Rows.{PassesAll}
use Rattle.machine.specs.Sound.{Sound}
use Rattle.machine.specs.Store.{Session}
use Rattle.machine.specs.Views.{View}
use Rattle.machine.specs.Weight.{IsLight}
use Rattle.store_state.specs.declared.change.Change.{Change}
use Rattle.store_state.specs.declared.change.Change.TheVariants.{Install}
use Rattle.store_state.specs.Change.{Fits, effect}
use Rattle.store_state.specs.Measured.{BringsMeasured}
use Rattle.store_state.specs.Shows.{Shows}
use Rattle.store_state.specs.Tables.{Tables, table_shape}
use Rattle.links.specs.Links.{LinksState}
use Rattle.table_weight.specs.Weight.{tables_weight}
use Rattle.fetcher.specs.Fetched.{Kept}
use Rattle.install_plan.specs.Brought.{IsBrought}
use Rattle.install_plan.specs.InstallHeard.{InstallServed}
use Rattle.install_plan.specs.LeadsIn.{LeadsIn, NewBytes}

-- It is an install of as many contents as a release may have files, and of no more data files.
abbrev pub HasFew : Change → Type 0
HasFew (Install view contents provider now) =
    (length contents ≤ FILE_COUNT_LIMIT) × (length view.locals ≤ FILE_COUNT_LIMIT)
HasFew _ = ⊥

-- the step of a session over the store that the tables show with an image, by which these bytes come
pub record IsStep (room : Room) (tables : Tables) (url : List ℕ) (texts : List (List ℕ))
    (before after : LinksState) (now : ℕ) (change : Change) (reply : Reply) (there : List ℕ)
    (bytes : NewBytes) (old : Session) : Type 0 where
  pub new : Session
  pub installs : InstallEffect url texts now old reply new
  pub leads : LeadsIn room change tables there bytes new.store
  pub brought : (view : View) → new.store.views ≡ old.store.views ++ view ∷ []
      → IsBrought old before after view

-- A change is to be made, which fits and leaves the tables room in a half of the journal. Nothing
-- refuses the install. Each file that comes has as many blocks as its length needs. Where the disk
-- told, the tables showed the store with the first image, and the second one has the new files too.
pub record IsReady (told : Type 0) (here there : List ℕ) (room : Room) (tables : Tables)
    (url : List ℕ) (texts : List (List ℕ)) (before after : LinksState) (now : ℕ)
    (change : Change) (reply : Reply) : Type 0 where
  pub hears : HearsRelease url (table_shape room tables) texts
  pub kept : Kept before after
  pub passes : PassesAll (install_refusals url texts (table_shape room tables))
  pub replied : (key : Key) × (version : Version) × (view : ℕ)
      × (reply ≡ Installed key version view)
  pub served : InstallServed (table_shape room tables) url texts before after reply
  pub fits : Fits tables change
  pub light : IsLight room (tables_weight (effect change tables))
  pub few : HasFew change
  pub measured : BringsMeasured change
  pub bytes : NewBytes
  pub step : told → (old : Session) → old.jobs ≡ []
      → Shows room tables here old.store → Sound old.store
      → IsStep room tables url texts before after now change reply there bytes old
