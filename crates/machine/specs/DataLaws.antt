-- What is true of data files.
use Rattle.std.specs.Prelude.{◌≡◌, ◌≢◌, ℕ, List, [], ◌∷◌, length, Option, Some, None, IsSome, option_and_then, option_map}
use Rattle.machine.specs.declared.command.Command.TheVariants.{Clean, Local, Put, Remove}
use Rattle.machine.specs.declared.event.Event.{Event}
use Rattle.machine.specs.declared.event.Event.TheVariants.{Line}
use Rattle.machine.specs.declared.reply.Reply.{Reply}
use Rattle.machine.specs.declared.reply.Reply.TheVariants as says
use Rattle.machine.specs.Current.{view_at}
use Rattle.machine.specs.DataFiles.{data_named}
use Rattle.machine.specs.InUse.{IsInUse}
use Rattle.machine.specs.Leases.{lease_of, leased_view}
use Rattle.machine.specs.Machine.{Answers, Run, moment_after}
use Rattle.machine.specs.ReadRow.{part}
use Rattle.machine.specs.Store.{Session, Store}
use Rattle.machine.specs.Valid.{Valid}
use Rattle.machine.specs.Views.{DataFile, View}

-- ---- one line

-- The leased view has under the name what is said, and under each other name what it had. Its
-- program files stay, and so does every other view.
pub record HasData (lease : ℕ) (name : List ℕ) (file : Option DataFile) (old new : Store)
    : Type 0 where
  pub view : View
  pub later : View
  pub before : leased_view lease old ≡ Some view
  pub after : leased_view lease new ≡ Some later
  pub there : data_named name later.data_files ≡ file
  pub others : (other : List ℕ) → other ≢ name
      → data_named other later.data_files ≡ data_named other view.data_files
  pub programs : later.program_files ≡ view.program_files
  pub views : (number : ℕ) → number ≢ view.number
      → view_at number new.views ≡ view_at number old.views

-- after a put that is answered so, the data file has these bytes
abbrev pub PutsAreThere : Type 0
PutsAreThere = (now : ℕ) (heard : List (List ℕ)) (old : Session) (lease : ℕ) (name bytes : List ℕ)
    (new : Session)
    → Valid old.store → Answers now heard old (Put lease name bytes) says.Put new
    → HasData lease name (Some (record { name = name; bytes = bytes })) old.store new.store

-- after a removal that is answered so, there is none of the name
abbrev pub RemovedFilesAreGone : Type 0
RemovedFilesAreGone = (now : ℕ) (heard : List (List ℕ)) (old : Session) (lease : ℕ)
    (name : List ℕ) (new : Session)
    → Valid old.store → Answers now heard old (Remove lease name) says.Removed new
    → HasData lease name None old.store new.store

-- ---- a run

-- the data file of the name in the view of that number
abbrev pub data_at : ℕ → List ℕ → Store → Option DataFile
data_at number name store =
    option_and_then (λ view. data_named name view.data_files) (view_at number store.views)

-- the lease is on the view of that number
abbrev pub IsOn : ℕ → ℕ → Store → Type 0
IsOn number lease store =
    option_map (λ l. l.view) (lease_of lease store.leases) ≡ Some number

-- a put or a removal of that name on a lease of that view, which was not refused
abbrev pub ChangesData : ℕ → List ℕ → Store → Event → Option Reply → Type 0
ChangesData number name store (Line (Put lease other bytes) now heard) (Some says.Put) =
    (other ≡ name) × IsOn number lease store
ChangesData number name store (Line (Remove lease other) now heard) (Some says.Removed) =
    (other ≡ name) × IsOn number lease store
ChangesData number name store _ _ = ⊥

-- a clean while the view of that number is neither current nor previous of any application nor
-- leased
abbrev pub TakesView : ℕ → Store → Event → Option Reply → Type 0
TakesView number store (Line Clean now heard) _ = ¬ IsInUse number store.apps store.leases
TakesView number store _ _ = ⊥

-- no event of the run is so, with its reply
abbrev pub NoneIs : (Store → Event → Option Reply → Type 0) → (now : ℕ) (old : Session)
    (events : List Event) (replies : List (Option Reply)) (new : Session)
    → Run now old events replies new → Type 0
NoneIs is now old [] replies new run = Unit {0}
NoneIs is now old (event ∷ events) [] new run = Unit {0}
NoneIs is now old (event ∷ events) (reply ∷ replies) new run =
    (is old.store event reply → ⊥)
    × NoneIs is (moment_after now reply) run.0 events replies new run.2

abbrev pub NoneChangesData : ℕ → List ℕ → (now : ℕ) (old : Session) (events : List Event)
    (replies : List (Option Reply)) (new : Session) → Run now old events replies new → Type 0
NoneChangesData number name now old events replies new run =
    NoneIs (ChangesData number name) now old events replies new run

abbrev pub NoneTakesView : ℕ → (now : ℕ) (old : Session) (events : List Event)
    (replies : List (Option Reply)) (new : Session) → Run now old events replies new → Type 0
NoneTakesView number now old events replies new run =
    NoneIs (TakesView number) now old events replies new run

-- where none changes it, and none takes the view, a kept view has under the name what it had
abbrev pub DataFilesStay : Type 0
DataFilesStay = (number : ℕ) (name : List ℕ) (now : ℕ) (old : Session) (events : List Event)
    (replies : List (Option Reply)) (new : Session) (run : Run now old events replies new)
    → IsSome (view_at number old.store.views)
    → NoneChangesData number name now old events replies new run
    → NoneTakesView number now old events replies new run
    → data_at number name new.store ≡ data_at number name old.store

-- so it has where it is kept after the run
abbrev pub KeptDataFilesStay : Type 0
KeptDataFilesStay = (number : ℕ) (name : List ℕ) (now : ℕ) (old : Session) (events : List Event)
    (replies : List (Option Reply)) (new : Session) (run : Run now old events replies new)
    → Valid old.store → IsSome (view_at number old.store.views)
    → IsSome (view_at number new.store.views)
    → NoneChangesData number name now old events replies new run
    → data_at number name new.store ≡ data_at number name old.store

-- ---- reads

-- what `data` shows: a part of a data file of the leased view
pub record IsDataOf (lease : ℕ) (name : List ℕ) (from count shown : ℕ) (bytes : List ℕ)
    (store : Store) : Type 0 where
  pub view : View
  pub leased : leased_view lease store ≡ Some view
  pub file : DataFile
  pub found : data_named name view.data_files ≡ Some file
  pub size : shown ≡ length file.bytes
  pub is_part : bytes ≡ part from count file.bytes

abbrev pub DataIsOfFiles : Type 0
DataIsOfFiles = (now : ℕ) (heard : List (List ℕ)) (old : Session) (lease : ℕ) (name : List ℕ)
    (from count shown : ℕ) (bytes : List ℕ) (new : Session)
    → Answers now heard old (Local lease name from count) (says.Read shown bytes) new
    → IsDataOf lease name from count shown bytes old.store
