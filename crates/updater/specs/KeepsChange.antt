-- The durable step: a change is made in the tables and in the journal, or not at all.
use Rattle.std.specs.Prelude.{◌≡◌, ◌⊎◌, ◌+◌, ◌≤◌, ℕ, List, Result, Err, OnOk}
use Rattle.disks.specs.declared.disk.Disk.{Ghosts}
use Rattle.disks.specs.Moments.{Each, LeavesOnly}
use Rattle.disks.specs.Spends.{Spends}
use Rattle.machine.specs.Store.{Session, Store}
use Rattle.machine.specs.Valid.{Valid}
use Rattle.machine.specs.Weight.{IsLight}
use Rattle.record_codec.specs.Codec.{IsChange}
use Rattle.store_state.specs.declared.change.Change.{Change}
use Rattle.store_state.specs.Change.{Fits, TakesMemory, effect}
use Rattle.store_state.specs.Measured.{BringsMeasured}
use Rattle.store_state.specs.Tables.{Tables}
use Rattle.table_files.specs.Freed.{LetsGo}
use Rattle.table_weight.specs.Weight.{tables_weight}
use Rattle.table_codec.specs.Laws.{IsShortPut}
use Rattle.install_plan.specs.LeadsIn.{HasNew, LeadsIn, NewBytes}
use Rattle.table_log.specs.declared.fault.StepFault.{StepFault}
use Rattle.table_log.specs.declared.fault.StepFault.TheVariants.{Memory, DiskFault}
use Rattle.updater.specs.Shown.{Updater}
use Rattle.updater.specs.StandsFor.{StandsForEither}
use Rattle.updater.specs.StepCosts.{CostsOf}
use Rattle.updater.specs.Updater.{Holds, room_of, tables_of}

-- An updater may make the change: it fits the tables and has an encoding, the changed tables have
-- room, and each file that comes has as many blocks as its length needs.
pub record MayKeep (updater : Updater) (change : Change) : Type 0 where
  pub fits : Fits (tables_of updater) change
  pub has : IsChange change
  pub short : IsShortPut change
  pub light : IsLight (room_of updater) (tables_weight (effect change (tables_of updater)))
  pub measured : BringsMeasured change

-- The change brings these bytes. It leads from tables that show the old store, with this image, to
-- tables that show the new one, which is valid.
pub record LeadsBetween (change : Change) (tables : Tables) (there : List ℕ) (old new : Store)
    : Type 0 where
  pub bytes : NewBytes
  pub shows : LeadsIn old.room change tables there bytes new
  pub valid : Valid new

-- each image that a stop may leave now has the bytes that the change brings
abbrev pub BringsNow : {D : Type 0} → (on : Ghosts D) (change : Change) (tables : Tables)
    (disk : D) (old new : Store) → LeadsBetween change tables (on.seen disk) old new → Type 0
BringsNow on change tables disk old new leads =
    Each on disk (HasNew old.room change leads.bytes)

-- what takes memory as a change is made durable: the change itself, or the list of what it lets go
abbrev pub MayTake : Tables → Change → Type 0
MayTake tables change = TakesMemory tables change ⊎ LetsGo change

-- What making a change durable does, for any session and any store between which it leads, where each
-- image has the bytes that come. It writes at most what the change costs. For want of memory it does
-- nothing.
pub record KeepsChange {D T : Type 0} (on : Ghosts D) (change : Change)
    (updater_old : Updater) (disk_old : D) (result : Result T StepFault)
    (updater_new : Updater) (disk_new : D) : Type 0 where
  pub fits : Fits (tables_of updater_old) change
  pub has : IsChange change
  pub measured : BringsMeasured change
  pub stored : on.tells disk_new → (old : Session) (new : Store)
      → (leads : LeadsBetween change (tables_of updater_old) (on.seen disk_old) old.store new)
      → BringsNow on change (tables_of updater_old) disk_old old.store new leads
      → Holds on updater_old disk_old old
      → OnOk result (Holds on updater_new disk_new (record old { store = new }))
  pub stop : on.tells disk_new → (old : Session) (new : Store)
      → (leads : LeadsBetween change (tables_of updater_old) (on.seen disk_old) old.store new)
      → BringsNow on change (tables_of updater_old) disk_old old.store new leads
      → Holds on updater_old disk_old old
      → LeavesOnly on disk_old disk_new (StandsForEither old.store new)
  pub past : (t : ℕ) (image : List ℕ) → t ≤ on.moment disk_old
      → on.left_at disk_new t image → on.left_at disk_old t image
  pub memory : result ≡ Err Memory → (updater_new ≡ updater_old) × (disk_new ≡ disk_old)
  pub needs : result ≡ Err Memory → MayTake (tables_of updater_old) change
  pub marked : OnOk result (on.moment disk_old + 1 ≤ on.moment disk_new)
  pub bytes : ℕ
  pub costs : CostsOf change (tables_of updater_old) bytes
  pub spends : Spends on 10 bytes disk_old disk_new (result ≡ Err DiskFault)
