-- What a publish makes of a folder, and what it answers.
use Rattle.std.specs.Prelude.{◌≡◌, ℕ, List, length, Some, Result, IfOk, IfErr, OnOk, OnErr}
use Rattle.folders.specs.declared.folder.Folder.{Ghosts as FolderGhosts}
use Rattle.folders.specs.declared.folder.Held.{Held}
use Rattle.folders.specs.Files.{HasOneList, IsNames, file_in}
use Rattle.publish_plan.specs.declared.fault.PlanFault.{PlanFault}
use Rattle.publish_plan.specs.declared.options.Options.{Options}
use Rattle.publish_plan.specs.Early.{early_of}
use Rattle.publish_plan.specs.Places.{deployment_name, input_names}
use Rattle.publisher.specs.declared.fault.PublishFault.{PublishFault}
use Rattle.publisher.specs.declared.fault.PublishFault.TheVariants.{ReadFault}
use Rattle.publisher.specs.declared.published.Published.{Published}
use Rattle.publisher.specs.Changes.{ShowsChange}
use Rattle.publisher.specs.Faults.{FaultsCounted, IsEarly, IsRefused, fault_of}
use Rattle.publisher.specs.Outcome.{KeepsStanding, Leaves, LeavesInput, Publishes, Refuses}
use Rattle.publisher.specs.Publication.{deployment_key, publish_of}
use Rattle.publisher.specs.Readings.{ReadsChange}

-- an answer has the key and the version of the options
pub record IsAnswer (o : Options) (p : Published) : Type 0 where
  pub key : p.key ≡ deployment_key o
  pub version : p.version ≡ o.version

-- What a publish by these options makes of files with these names, and what it answers.
pub record PublishesFiles (o : Options) (names : List (List ℕ)) (old new : List Held)
    (result : Result Published PublishFault) : Type 0 where
  -- An answer comes where nothing is refused. Then all is written that the definitions give, and
  -- nothing else.
  pub published : OnOk result (Publishes (publish_of o names old) old new)
  pub files : IfOk result (λ p. p.files ≡ length (input_names o.from names))
  -- An error is the first refusal, or the folder failed, or memory ran out. Some first part may be
  -- written then, of the input files alone where a reading failed, and nothing where there is a
  -- refusal.
  pub refused : IfErr result (λ e. Refuses e (publish_of o names old))
  pub left : OnErr result (Leaves (publish_of o names old) old new)
  pub reading : IfErr result (λ e. e ≡ ReadFault → LeavesInput (publish_of o names old) old new)
  -- A file that stood keeps its bytes, but for the deployment manifest, which keeps them after an
  -- error.
  pub unpublished :
      OnErr result (file_in (deployment_name o) new ≡ file_in (deployment_name o) old)
  pub standing : KeepsStanding (deployment_name o) old new

-- What a publish by these options makes of a folder, and what it answers.
pub record IsPublish {F : Type 0} (folder : FolderGhosts F) (o : Options) (old new : F)
    (result : Result Published PublishFault) : Type 0 where
  -- The words and the minimum are judged first, and then the folder is not called.
  pub early : (fault : PlanFault) → early_of o ≡ Some fault
      → IsRefused result (fault_of fault) × (new ≡ old)
  pub only_early : IfErr result (IsEarly (early_of o))
  -- An answer has the key and the version of the options.
  pub answer : IfOk result (IsAnswer o)
  -- A folder that tells has one list of names, by which the definitions say what is written.
  pub listed : folder.tells → HasOneList (folder.held old)
  pub told : folder.tells → (names : List (List ℕ)) → IsNames (folder.held old) names
      → PublishesFiles o names (folder.held old) (folder.held new) result
  -- A change shows what was read, over any folder.
  pub change : IfErr result ShowsChange
  -- A folder that records answered the two readings that a change shows, of the file that it names.
  pub readings : folder.records
      → IfErr result (ReadsChange o.from (folder.answers old) (folder.answers new))
  -- No fault of the folder is passed over, or told as another error.
  pub counted : FaultsCounted (folder.count old) (folder.count new) result
