-- What is done for an inspection and for a publish.
use Rattle.std.specs.Prelude.{◌≡◌, ◌⊎◌, ℕ, drop}
use Rattle.outside.specs.Streams.{Rose, TakesAtMost}
use Rattle.outside.specs.declared.source.Source.{Ghosts as SourceGhosts}
use Rattle.outside.specs.declared.sink.Sink.{Ghosts as SinkGhosts}
use Rattle.folders.specs.declared.folder.Folder.{Ghosts as FolderGhosts}
use Rattle.inspection.specs.declared.manifest.InspectionEnd.{InspectionEnd}
use Rattle.inspection.specs.declared.manifest.InspectionEnd.TheVariants as inspected
use Rattle.inspection.specs.declared.manifest.Kind.{Kind}
use Rattle.inspection.specs.declared.manifest.TheConstants.{INSPECTED_LIMIT}
use Rattle.inspection.specs.Inspection.{exit_status, Inspects}
use Rattle.publish_plan.specs.declared.options.Options.{Options}
use Rattle.publication.specs.declared.publication.PublishEnd.{PublishEnd}
use Rattle.publication.specs.declared.publication.PublishEnd.TheVariants as ends
use Rattle.publication.specs.Publication.{PublishesOptions, status_of}

-- What a manifest says was written, or why it is refused. The status is that of the end. No more of
-- the source was read than was needed. Where the source failed, or for want of memory, nothing was
-- written.
pub record InspectsInput {S K : Type 0} (from : SourceGhosts S) (to : SinkGhosts K) (kind : Kind)
    (status : ℕ) (source_old source : S) (sink_old sink : K) : Type 0 where
  pub end : InspectionEnd
  pub code : status ≡ exit_status end
  pub says : Inspects kind from.tells to.tells (from.left source_old)
      (to.taken sink_old) (to.taken sink) end
  pub left : from.tells
      → (end ≡ inspected.Done) ⊎ ((end ≡ inspected.Refused) ⊎ (end ≡ inspected.SinkFault))
      → from.left source ≡ drop INSPECTED_LIMIT (from.left source_old)
  pub taken : from.tells → TakesAtMost INSPECTED_LIMIT (from.left source_old) (from.left source)
  pub nothing : (end ≡ inspected.SourceFault) ⊎ (end ≡ inspected.Memory) → sink ≡ sink_old
  pub statuses : (status ≡ exit_status inspected.Done)
      ⊎ ((status ≡ exit_status inspected.Refused)
      ⊎ ((status ≡ exit_status inspected.SourceFault)
      ⊎ ((status ≡ exit_status inspected.SinkFault)
      ⊎ (status ≡ exit_status inspected.Memory))))

-- A release was published, or the publish was refused, and a line says which; or there was no
-- memory to read the options, and nothing was done. The status is that of the end. With 2 the
-- folder failed, with 3 the folder or the sink.
pub record PublishesBy {F K : Type 0} (folder : FolderGhosts F) (to : SinkGhosts K)
    (options : Options) (status : ℕ) (folder_old folder_new : F) (sink_old sink : K) : Type 0 where
  pub end : PublishEnd
  pub code : status ≡ status_of end
  pub done : PublishesOptions folder to options folder_old folder_new sink_old sink end
      ⊎ ((end ≡ ends.Memory) × (folder_new ≡ folder_old) × (sink ≡ sink_old))
  pub sink_fault : end ≡ ends.SinkFault → Rose (to.count sink_old) (to.count sink)
  pub read_fault : status ≡ status_of ends.ReadFault
      → Rose (folder.count folder_old) (folder.count folder_new)
  pub fault : status ≡ status_of ends.SinkFault
      → Rose (folder.count folder_old) (folder.count folder_new) ⊎ Rose (to.count sink_old)
      (to.count sink)
  pub statuses : (status ≡ status_of ends.Done)
      ⊎ ((status ≡ status_of ends.Refused) ⊎ ((status ≡ status_of ends.ReadFault)
      ⊎ ((status ≡ status_of ends.SinkFault) ⊎ (status ≡ status_of ends.Memory))))
