-- What a check comes to: a change of the tables and a reply, or a reply alone.
use Rattle.std.specs.Prelude.{◌≡◌, ◌≢◌, ◌⊎◌, ℕ, Bool, true, false, List, [], Some}
use Rattle.small_types.specs.declared.room.Room.{Room}
use Rattle.identity.specs.declared.key.Key.{Key}
use Rattle.machine.specs.declared.app.AppState.{AppState}
use Rattle.machine.specs.declared.command.Command.TheVariants.{Check}
use Rattle.machine.specs.declared.reply.Reply.{Reply}
use Rattle.machine.specs.declared.reply.Reply.TheVariants as says
use Rattle.machine.specs.CheckRow.{HearsOffer, heard_app, unheard_app}
use Rattle.machine.specs.Installed.{above, raised_by}
use Rattle.machine.specs.Machine.{Answers, moment_after}
use Rattle.machine.specs.Shape.{shape_of}
use Rattle.machine.specs.Store.{Session, Store}
use Rattle.machine.specs.Valid.{Valid}
use Rattle.store_state.specs.declared.change.Change.{Change}
use Rattle.store_state.specs.declared.change.Change.TheVariants.{Heard, Unheard}
use Rattle.store_state.specs.Change.{Fits}
use Rattle.store_state.specs.Shows.{Shows}
use Rattle.store_state.specs.Tables.{Tables, table_shape}
use Rattle.links.specs.Links.{LinksState}
use Rattle.fetcher.specs.Fetched.{KeptAll}
use Rattle.install_plan.specs.declared.check.Offered.{Offered}
use Rattle.install_plan.specs.declared.prepared.Prepared.{Prepared}
use Rattle.install_plan.specs.declared.prepared.Prepared.TheVariants as to
use Rattle.install_plan.specs.Downs.{CountsDowns}
use Rattle.install_plan.specs.LeadsIn.{LeadsIn, NewBytes, no_bytes}
use Rattle.install_plan.specs.Offers.{OfferServed}

-- ---- what is noted of an application

-- what was heard, and the reply that is then due
abbrev pub heard_of : Offered → AppState → AppState
heard_of offered app = heard_app offered.have offered.version offered.minimum offered.now app

abbrev pub checked_of : Offered → AppState → Reply
checked_of offered app =
    says.Checked (above offered.have (Some offered.version)) (raised_by offered.minimum app.minimum)

-- a change with its reply, where it makes another entry of the application's
pub record IsNoted (f : AppState → AppState) (app : AppState) (change : Change) (reply : Reply)
    (made : Change) (due : Reply) : Type 0 where
  pub change_is : made ≡ change
  pub reply_is : due ≡ reply
  pub other : f app ≢ app

-- a reply alone, where it makes none, or where there was no memory
abbrev pub IsUnnoted : (AppState → AppState) → AppState → Reply → Reply → Type 0
IsUnnoted f app reply result = (result ≡ says.Memory) ⊎ ((result ≡ reply) × (f app ≡ app))

-- one of both
abbrev pub NotesTo : (AppState → AppState) → AppState → Change → Reply → Prepared → Type 0
NotesTo f app change reply (to.Change made due) = IsNoted f app change reply made due
NotesTo f app change reply (to.Reply result) = IsUnnoted f app reply result

-- the reply names a target that no link gave
abbrev pub is_missing : Reply → Bool
is_missing (says.AllLinks target reasons) = true
is_missing _ = false

-- That is noted, unless it is already; of any other reply there is nothing to note.
pub record IsMissed (key : Key) (app : AppState) (reply : Reply) (made : Change) (due : Reply)
    : Type 0 where
  pub missing : is_missing reply ≡ true
  pub noted : IsNoted unheard_app app (Unheard key) reply made due

abbrev pub IsUnmissed : AppState → Reply → Reply → Type 0
IsUnmissed app reply result =
    (result ≡ says.Memory) ⊎ ((result ≡ reply) × (is_missing reply ≡ true → unheard_app app ≡ app))

-- one of both
abbrev pub MissesTo : Key → AppState → Reply → Prepared → Type 0
MissesTo key app reply (to.Change made due) = IsMissed key app reply made due
MissesTo key app reply (to.Reply result) = IsUnmissed app reply result

-- ---- steps

-- a step of a session over the store that the tables show
pub record CheckStep (key : Key) (texts : List (List ℕ)) (before after : LinksState) (now : ℕ)
    (reply : Reply) (old : Session) (Leaves : Store → Type 0) : Type 0 where
  pub new : Session
  pub step : Answers now texts old (Check key) reply new
  pub served : OfferServed key (shape_of old) texts before after reply
  pub leaves : Leaves new.store

-- for each session without jobs over a valid store that the tables show there is one
abbrev pub ChecksTo : Room → Tables → Key → List (List ℕ) → LinksState → LinksState → ℕ → Reply
    → (List ℕ → Store → Store → Type 0) → Type 0
ChecksTo room tables key texts before after now reply Leaves =
    (image : List ℕ) (old : Session) → old.jobs ≡ [] → Shows room tables image old.store
    → Valid old.store → CheckStep key texts before after now reply old (Leaves image old.store)

-- another store, to which the change leads from an image; it brings these bytes
pub record LedBy (room : Room) (tables : Tables) (change : Change) (there : List ℕ)
    (bytes : NewBytes) (old new : Store) : Type 0 where
  pub leads : LeadsIn room change tables there bytes new
  pub other : new ≢ old

-- what is heard or not of that application
abbrev pub IsOfCheck : Key → Change → Type 0
IsOfCheck key (Heard other version minimum now) = other ≡ key
IsOfCheck key (Unheard other) = other ≡ key
IsOfCheck key _ = ⊥

-- A change is to be made, which fits.
pub record IsCheckReady (room : Room) (tables : Tables) (key : Key) (texts : List (List ℕ))
    (before after : LinksState) (now : ℕ) (change : Change) (reply : Reply) : Type 0 where
  pub hears : HearsOffer key (table_shape room tables) texts
  pub kept : KeptAll before after
  pub still : moment_after now (Some reply) ≡ now
  pub downs : CountsDowns before after reply
  pub of : IsOfCheck key change
  pub fits : Fits tables change
  pub step : ChecksTo room tables key texts before after now reply
      (λ image. LedBy room tables change image no_bytes)

-- Nothing is to be changed.
pub record IsCheckOver (room : Room) (tables : Tables) (key : Key) (texts : List (List ℕ))
    (before after : LinksState) (now : ℕ) (reply : Reply) : Type 0 where
  pub hears : HearsOffer key (table_shape room tables) texts
  pub kept : KeptAll before after
  pub still : moment_after now (Some reply) ≡ now
  pub downs : CountsDowns before after reply
  pub step : ChecksTo room tables key texts before after now reply (λ image old new. new ≡ old)
