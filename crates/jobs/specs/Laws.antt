-- What the blocks in use are, in the words of the layers above.
use Rattle.std.specs.Prelude.{◌≡◌, ℕ, ◌+◌, ◌&&◌, not, min, if◌then◌else◌, List, [], length, count_by}
use Rattle.std.specs.List.{sum_by}
use Rattle.small_types.specs.Blocks.{count_for}
use Rattle.file_store.specs.Stores.{block_count, free_of}
use Rattle.file_store.specs.declared.store.FileStore.{FileStore}
use Rattle.machine.specs.Views.{ContentKey, content_key, same_key}
use Rattle.jobs.specs.Balance.{held_as, kept_as}
use Rattle.jobs.specs.Jobs.{IsSound}
use Rattle.jobs.specs.Kept.{Kept}
use Rattle.jobs.specs.Slots.{has_blocks}
use Rattle.jobs.specs.declared.held.Slot.{Slot}
use Rattle.jobs.specs.declared.table.Job.{Job}
use Rattle.jobs.specs.declared.table.JobTable.{JobTable}

-- The blocks that jobs count: of each file that they need, and for which blocks stand with them, as
-- many as its size needs.
unfoldable pub counted_by : List Slot → ℕ
counted_by slots = sum_by (λ s. if has_blocks s.held then count_for s.key.size else 0) slots

-- how many program files of the jobs have this content
unfoldable pub entries_as : ContentKey → List Job → ℕ
entries_as key jobs = sum_by
    (λ j. count_by (λ e. not e.local && same_key key (content_key e)) j.entries.items) jobs

-- the blocks of the tables, those that jobs count and the free ones are all blocks
abbrev pub BlocksAddUp : Type 0
BlocksAddUp = (kept : Kept) (table : JobTable) (store : FileStore)
    → IsSound kept table [] [] store
    → kept.count + counted_by table.slots.items + length (free_of store) ≡ block_count store

-- for each content that the tables or a file of a job has, and for no other, one list of blocks
-- stands
abbrev pub OneListEach : Type 0
OneListEach = (kept : Kept) (table : JobTable) (store : FileStore)
    → IsSound kept table [] [] store → (key : ContentKey)
    → kept_as key kept + held_as key table.slots.items
    ≡ min 1 (kept_as key kept + entries_as key table.jobs.items)
