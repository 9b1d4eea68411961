-- What holds of the jobs of a session between its lines.
use Rattle.std.specs.Prelude.{◌≡◌, ◌≢◌, ℕ, ◌+◌, ◌-◌, ◌<◌, ◌≤◌, true, false, List, [], ◌∷◌, ◌++◌, length, take, slice_index, slice_index_or, slice_set, All, AllPairs, Contains, nat_le, nat_lt, if◌then◌else◌, Option, Some, None}
use Rattle.std.specs.List.{sum_by}
use Rattle.small_types.specs.Blocks.{count_for}
use Rattle.file_store.specs.Stores.{AreUsed, block_count, draft_blocks, draft_size, free_of}
use Rattle.file_store.specs.declared.draft.Draft.{Draft}
use Rattle.file_store.specs.declared.store.FileStore.{FileStore}
use Rattle.jobs.specs.Balance.{Balanced, times}
use Rattle.jobs.specs.NewJobs.{need_for}
use Rattle.jobs.specs.Slots.{Suits, is_away, is_coming, slot_at, with_held}
use Rattle.manifests.specs.declared.facts.FileEntry.{FileEntry}
use Rattle.small_types.specs.declared.limits.TheConstants.{FILE_COUNT_LIMIT, JOB_LIMIT, NUMBER_LIMIT}
use Rattle.jobs.specs.declared.fault.JobFault.{JobFault}
use Rattle.jobs.specs.declared.fault.JobFault.TheVariants.{Full, JobsFull, Spent}
use Rattle.jobs.specs.declared.held.Held.{Held}
use Rattle.jobs.specs.declared.held.Held.TheVariants.{Away, Coming}
use Rattle.jobs.specs.declared.held.Slot.{Slot}
use Rattle.jobs.specs.declared.table.Job.{Job}
use Rattle.jobs.specs.declared.table.Fetch.{Fetch}
use Rattle.jobs.specs.declared.table.Fetch.TheVariants.{Wanted, Have}
use Rattle.jobs.specs.declared.table.JobTable.{JobTable}
use Rattle.jobs.specs.Kept.{Kept}

-- how many entries of the jobs need the slot at this place
unfoldable pub references : List Job → ℕ → ℕ
references jobs at = sum_by (λ j. times at j.needs.items) jobs

-- each slot knows how many entries need it
abbrev pub AreCounted : List Slot → (ℕ → ℕ) → Type 0
AreCounted slots count = (at : ℕ) → at < length slots → (slot_at slots at).users ≡ count at

-- A job as it may stand: each entry has the slot of its file, and one whose file is still to come
-- is left to be fetched, or another with the same file is.
pub record IsOpen (slots : List Slot) (job : Job) : Type 0 where
  pub count : length job.needs.items ≡ length job.entries.items
  pub few : length job.entries.items ≤ FILE_COUNT_LIMIT
  pub within : All (λ at. at < length slots) job.needs.items
  pub suits : (k : ℕ) (d : FileEntry) → k < length job.entries.items
      → Suits (slice_index_or job.entries.items k d) (slot_at slots (slice_index job.needs.items k))
  pub left : All (λ k. k < length job.entries.items) job.left.items
  pub coming : (k : ℕ) → k < length job.entries.items
      → is_coming (slot_at slots (slice_index job.needs.items k)).held ≡ true
      → (p : ℕ) × Contains job.left.items p
      × (slice_index job.needs.items p ≡ slice_index job.needs.items k)

-- What holds between the lines of a session, where no draft is out; and within a step, while the
-- draft of the slot at some place is out, whose blocks the step has in its hands.
pub record IsSound (tables : Kept) (table : JobTable) (out hands : List ℕ) (store : FileStore)
    : Type 0 where
  pub balanced : Balanced tables table.slots.items hands store
  pub counted : AreCounted table.slots.items (references table.jobs.items)
  pub settled : (at : ℕ) → at < length table.slots.items
      → is_away (slot_at table.slots.items at).held ≡ true → Contains out at
  pub open_jobs : All (IsOpen table.slots.items) table.jobs.items
  pub few : length table.jobs.items ≤ JOB_LIMIT
  pub apart : AllPairs (λ one other. one.number ≢ other.number) table.jobs.items
  pub below : All (λ job. job.number < table.next) table.jobs.items
  pub next : table.next ≤ NUMBER_LIMIT

-- As a session begins: each block is the tables' or free. The tables name these blocks, of which
-- none is free, and with the free ones they are as many as there are.
pub record IsBare (kept : Kept) (store : FileStore) : Type 0 where
  pub blocks : List ℕ
  pub standing : (block : ℕ) → kept.standing block ≡ times block blocks
  pub count : kept.count ≡ length blocks
  pub used : AreUsed store blocks
  pub all : length blocks + length (free_of store) ≡ block_count store

-- whatever the tables keep: what was sound beside them still is
abbrev pub KeepsSound : JobTable → List ℕ → FileStore → JobTable → List ℕ → FileStore → Type 0
KeepsSound table hands store later left after =
    (kept : Kept) → IsSound kept table [] hands store → IsSound kept later [] left after

-- the place of the first entry that a job has left
abbrev pub first_left : Job → ℕ
first_left job = slice_index job.left.items (length job.left.items - 1)

-- the place of its slot
abbrev pub first_slot : Job → ℕ
first_slot job = slice_index job.needs.items (first_left job)

-- the job without it
abbrev pub one_less : Job → List ℕ
one_less job = take (length job.left.items - 1) job.left.items

-- the job as it is once its first entry left is fetched
pub record HasPassed (old new : Job) : Type 0 where
  pub number : new.number ≡ old.number
  pub entries : new.entries ≡ old.entries
  pub needs : new.needs ≡ old.needs
  pub left : new.left.items ≡ one_less old

-- A step of this job has the blocks of its draft in its hands.
pub record IsOut (tables : Kept) (job : Job) (blocks : List ℕ) (table : JobTable)
    (store : FileStore) : Type 0 where
  pub some : 0 < length job.left.items
  pub away : (slot_at table.slots.items (first_slot job)).held ≡ Away
  pub count : length blocks ≡ count_for (slot_at table.slots.items (first_slot job)).key.size
  pub sound : IsSound tables table (first_slot job ∷ []) blocks store

-- A step of this job takes the draft for its first entry left, and has its blocks in its hands.
pub record TakesDraft (job : Job) (place : ℕ) (draft : Draft) (old new : JobTable)
    (store : FileStore) : Type 0 where
  pub is : place ≡ first_left job
  pub within : place < length job.entries.items
  pub size : (d : FileEntry) → draft_size draft ≡ (slice_index_or job.entries.items place d).size
  pub room : draft_size draft ≡ (slot_at new.slots.items (first_slot job)).key.size
  pub own : (slot_at old.slots.items (first_slot job)).held ≡ Coming draft
  pub slots : new.slots.items ≡ slice_set old.slots.items (first_slot job)
      (with_held (slot_at old.slots.items (first_slot job)) Away)
  pub jobs : new.jobs.items ≡ old.jobs.items
  pub out : (kept : Kept) → IsSound kept old [] [] store
      → IsOut kept job (draft_blocks draft) new store

-- The job's first entry left is fetched: it is left no more, and its slot has this.
pub record IsFetched (job : Job) (held : Held) (at : ℕ) (old new : JobTable) : Type 0 where
  pub passed : (d : Job) → HasPassed job (slice_index_or new.jobs.items at d)
  pub others : (k : ℕ) (d : Job) → k ≢ at
      → slice_index_or new.jobs.items k d ≡ slice_index_or old.jobs.items k d
  pub slots : new.slots.items ≡ slice_set old.slots.items (first_slot job)
      (with_held (slot_at old.slots.items (first_slot job)) held)

-- The job has the content of its first entry left already.
pub record HasAlready (job : Job) (place : ℕ) (old new : JobTable) : Type 0 where
  pub some : 0 < length job.left.items
  pub is : place ≡ first_left job
  pub within : place < length job.entries.items
  pub here : is_coming (slot_at new.slots.items (first_slot job)).held ≡ false
  pub jobs : new.jobs.items ≡ old.jobs.items
  pub slots : new.slots.items ≡ old.slots.items
  pub sound : (store : FileStore) → KeepsSound old [] store new [] store

-- what a step is to fetch
abbrev pub Takes : Job → JobTable → JobTable → FileStore → Fetch → Type 0
Takes job old new store (Wanted place draft) = TakesDraft job place draft old new store
Takes job old new store (Have place) = HasAlready job place old new

-- A job more is open, for these files, of which these are left, with the number that was next.
pub record Opens (entries : List FileEntry) (left : List ℕ) (old new : JobTable) : Type 0 where
  pub next : new.next ≡ old.next + 1
  pub job : (job : Job) × (new.jobs.items ≡ old.jobs.items ++ job ∷ [])
      × (job.number ≡ old.next) × (job.entries.items ≡ entries) × (job.left.items ≡ left)

-- Why no job can be opened that has these files left, if that is so: sixteen are open, the numbers
-- are used up, or more blocks are needed than are free.
abbrev pub hindrance : JobTable → List FileEntry → List ℕ → FileStore → Option JobFault
hindrance table entries left store =
    if nat_le JOB_LIMIT (length table.jobs.items) then Some JobsFull
    else (if nat_le NUMBER_LIMIT table.next then Some (Spent table.next)
    else (if nat_lt (length (free_of store)) (need_for table.slots.items entries left)
    then Some (Full (need_for table.slots.items entries left) (length (free_of store))) else None))
