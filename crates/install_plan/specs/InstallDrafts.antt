-- What an install brings into drafts.
use Rattle.std.specs.Prelude.{◌≡◌, ℕ, List, ◌++◌, map}
use Rattle.std.specs.List.Sorted.{IsPermutation}
use Rattle.small_types.specs.Blocks.{ShareNone, blocks_start}
use Rattle.small_types.specs.declared.room.Room.{Room}
use Rattle.disks.specs.declared.disk.Disk.{Ghosts}
use Rattle.manifests.specs.declared.facts.FileEntry.{FileEntry}
use Rattle.machine.specs.declared.reply.Reply.{Reply}
use Rattle.store_state.specs.declared.view.Content.{Content}
use Rattle.store_state.specs.declared.view.LocalFile.{LocalFile}
use Rattle.store_state.specs.Stored.{HasLocals, data_bytes}
use Rattle.store_state.specs.Tables.{Tables}
use Rattle.table_files.specs.Held.{held_for_contents, held_for_locals}
use Rattle.data_migration.specs.declared.plan.LocalPlan.{LocalPlan}
use Rattle.links.specs.Links.{LinksState}
use Rattle.file_store.specs.Stores.{blocks_of_all, free_of, store_base}
use Rattle.file_store.specs.declared.draft.Draft.{Draft}
use Rattle.file_store.specs.declared.store.FileStore.{FileStore}
use Rattle.line_drafts.specs.Held.{AreHeld}
use Rattle.install_plan.specs.declared.plan.InstallPlan.{InstallPlan}
use Rattle.install_plan.specs.declared.plan.WantedFile.{WantedFile}
use Rattle.install_plan.specs.Carried.{ArePlansFor}
use Rattle.install_plan.specs.Changes.{contents_for, installed_of, listed_at, local_part, old_locals, plan_contents}
use Rattle.install_plan.specs.Drafted.{AreSized}
use Rattle.install_plan.specs.FetchedFiles.{HasFetched}
use Rattle.install_plan.specs.Parts.{AreCopies, copied_locals, made_locals}

-- The wanted files were fetched, each into a draft of its own, and then the old data files that plans
-- carry over were copied. What was fetched is held, and of a disk that told what was copied too.
pub record HasDrafted {D : Type 0} (on : Ghosts D) (listed : List FileEntry)
    (wanted : List WantedFile) (old : List LocalFile) (plans : List LocalPlan)
    (before after : LinksState) (files : FileStore) (drafts : List Draft) (disk_old disk_new : D)
    : Type 0 where
  pub gave : List (List ℕ)
  pub got : HasFetched listed wanted before after gave
  pub fetched : List Draft
  pub copies : List Draft
  pub are : drafts ≡ fetched ++ copies
  pub sized : AreSized fetched gave
  pub held : AreHeld (store_base files) fetched gave (on.seen disk_new)
  pub long : AreCopies copies (copied_locals old plans)
  pub copied : (room : Room) → on.tells disk_new → store_base files ≡ blocks_start room.half
      → ShareNone (held_for_locals old) (free_of files) → HasLocals room (on.seen disk_old) old
      → AreHeld (store_base files) copies
      (map (data_bytes room (on.seen disk_old)) (copied_locals old plans)) (on.seen disk_new)

-- the contents of the wanted files, which came into these drafts
abbrev pub drafted_contents : InstallPlan → List Draft → List Content
drafted_contents plan drafts =
    contents_for (listed_at plan.application.files plan.wanted) drafts

-- and the data files among them
abbrev pub drafted_locals : InstallPlan → List Draft → List LocalFile
drafted_locals plan drafts =
    local_part (listed_at plan.application.files plan.wanted) (drafted_contents plan drafts)

-- So the files of a plan came into drafts. These are its data files and its contents, all blocks of
-- the drafts, those of them that neither has, and the reply that is then due.
pub record HasFiles {D : Type 0} (on : Ghosts D) (tables : Tables) (plan : InstallPlan)
    (before after : LinksState) (files : FileStore) (drafts : List Draft) (disk_old disk_new : D)
    (locals : List LocalFile) (programs : List Content) (taken unused : List ℕ) (reply : Reply)
    : Type 0 where
  pub plans : List LocalPlan
  pub are : ArePlansFor tables plan plans
  pub has : HasDrafted on plan.application.files plan.wanted (old_locals tables plan) plans before
      after files drafts disk_old disk_new
  pub made : locals
      ≡ made_locals (old_locals tables plan) (drafted_locals plan drafts) has.copies plans
  pub contents : programs ≡ plan_contents plan (drafted_contents plan drafts)
  pub all : taken ≡ blocks_of_all drafts
  pub blocks : IsPermutation taken
      ((held_for_contents programs ++ held_for_locals locals) ++ unused)
  pub replied : reply ≡ installed_of tables plan
