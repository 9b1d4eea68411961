-- What publishing by options does, with its line.
use Rattle.std.specs.Prelude.{◌≡◌, ◌≢◌, ℕ, true, List, Result}
use Rattle.outside.specs.Streams.{Appends, AppendsPart}
use Rattle.outside.specs.declared.sink.Sink.{Ghosts as SinkGhosts}
use Rattle.folders.specs.declared.folder.Folder.{Ghosts as FolderGhosts}
use Rattle.publish_plan.specs.declared.options.Options.{Options}
use Rattle.publisher.specs.declared.fault.PublishFault.{PublishFault}
use Rattle.publisher.specs.declared.published.Published.{Published}
use Rattle.publisher.specs.Published.{IsPublish}
use Rattle.publication.specs.declared.publication.PublishEnd.{PublishEnd}
use Rattle.publication.specs.declared.publication.PublishEnd.TheVariants as ends
use Rattle.publication.specs.Lines.{end_of_publish, has_line, line_of}

-- the exit status
abbrev pub status_of : PublishEnd → ℕ
status_of ends.Done = 0
status_of ends.ReadFault = 2
status_of ends.WriteFault = 3
status_of ends.SinkFault = 3
status_of ends.Memory = 6
status_of ends.Refused = 7

-- how the call ends after a publish with this result, and what is written to the sink
abbrev pub EndsWith : {K : Type 0} → Type 0 → (K → List ℕ) → K → K → Result Published PublishFault
    → PublishEnd → Type 0
-- it was done, or it is refused, and its line was written whole
EndsWith tells taken old new result ends.Done =
    (end_of_publish result ≡ ends.Done)
    × (tells → Appends (taken old) (taken new) (line_of result))
EndsWith tells taken old new result ends.Refused =
    (end_of_publish result ≡ ends.Refused)
    × (tells → Appends (taken old) (taken new) (line_of result))
-- the folder failed, and nothing was written
EndsWith tells taken old new result ends.ReadFault =
    (end_of_publish result ≡ ends.ReadFault) × (new ≡ old)
EndsWith tells taken old new result ends.WriteFault =
    (end_of_publish result ≡ ends.WriteFault) × (new ≡ old)
-- the sink failed, and a first part of a line was written, and not all
EndsWith tells taken old new result ends.SinkFault =
    (has_line (end_of_publish result) ≡ true)
    × (tells → AppendsPart (taken old) (taken new) (line_of result))
-- memory ran out, for the publish or for its line, and the folder did not fail
EndsWith tells taken old new result ends.Memory =
    (end_of_publish result ≢ ends.ReadFault) × (end_of_publish result ≢ ends.WriteFault)
    × (new ≡ old)

-- A publish by the options was made, and the call ends by what came of it.
pub record PublishesOptions {F K : Type 0} (folder : FolderGhosts F) (to : SinkGhosts K)
    (o : Options) (folder_old folder_new : F) (sink_old sink_new : K) (end : PublishEnd)
    : Type 0 where
  pub result : Result Published PublishFault
  pub published : IsPublish folder o folder_old folder_new result
  pub ended : EndsWith to.tells to.taken sink_old sink_new result end
