-- Why a publish is refused, and which refusals a device or want of memory causes.
use Rattle.std.specs.Prelude.{◌≡◌, ℕ, ◌≤◌, ◌≢◌, Option, Some, Result, IfErr, OnOk, MatchResult}
use Rattle.outside.specs.Streams.{Rose}
use Rattle.folders.specs.declared.folder.FolderFault.{FolderFault}
use Rattle.folders.specs.declared.folder.FolderFault.TheVariants as folder
use Rattle.manifest_tree.specs.declared.write.WriteFault.{WriteFault as TreeWriteFault}
use Rattle.manifest_tree.specs.declared.write.WriteFault.TheVariants as tree
use Rattle.publish_plan.specs.declared.fault.PlanFault.{PlanFault}
use Rattle.publish_plan.specs.declared.fault.PlanFault.TheVariants as plan
use Rattle.publisher.specs.declared.fault.PublishFault.{PublishFault}
use Rattle.publisher.specs.declared.fault.PublishFault.TheVariants.{BadName, MinimumAbove, ReadFault, VersionExists, EmptyInput, BadInput, TooMany, NoEntryPoint, BadMark, ManifestTooLong, WriteFault, Memory}

-- a refusal of what is planned
abbrev pub fault_of : PlanFault → PublishFault
fault_of (plan.BadName word) = BadName word
fault_of (plan.MinimumAbove minimum) = MinimumAbove minimum
fault_of (plan.VersionExists file) = VersionExists file
fault_of plan.EmptyInput = EmptyInput
fault_of (plan.BadInput file) = BadInput file
fault_of (plan.TooMany what) = TooMany what
fault_of plan.NoEntryPoint = NoEntryPoint
fault_of (plan.BadMark file) = BadMark file
fault_of plan.Memory = Memory

-- why the text of a manifest is not written
abbrev pub fault_of_writing : TreeWriteFault → PublishFault
fault_of_writing (tree.TooLong length) = ManifestTooLong length
fault_of_writing tree.Memory = Memory

-- why a listing or a reading of the folder is not done
abbrev pub fault_of_reading : FolderFault → PublishFault
fault_of_reading folder.Failed = ReadFault
fault_of_reading folder.Memory = Memory

-- why a file is not put into the folder
abbrev pub fault_of_putting : FolderFault → PublishFault
fault_of_putting folder.Failed = WriteFault
fault_of_putting folder.Memory = Memory

-- A count of faults never falls. The two faults of the folder come only where it rose, and all else
-- leaves it: no fault of the folder is passed over, or told as another error.
pub record FaultsCounted {T : Type 0} (old new : ℕ) (result : Result T PublishFault)
    : Type 0 where
  pub later : old ≤ new
  pub read : IfErr result (λ e. e ≡ ReadFault → Rose old new)
  pub write : IfErr result (λ e. e ≡ WriteFault → Rose old new)
  pub others : IfErr result (λ e. e ≢ ReadFault → e ≢ WriteFault → new ≡ old)
  pub quiet : OnOk result (new ≡ old)

-- no value comes, and no other error than this one, unless memory ran out
abbrev pub IsRefused : {T : Type 0} → Result T PublishFault → PublishFault → Type 0
IsRefused r fault = MatchResult r (λ _. ⊥) (λ e. e ≢ Memory → e ≡ fault)

-- the folder failed at a reading, or memory ran out
abbrev pub IsReading : PublishFault → Type 0
IsReading ReadFault = Unit {0}
IsReading Memory = Unit {0}
IsReading e = ⊥

-- the folder failed at a writing, or memory ran out
abbrev pub IsWriting : PublishFault → Type 0
IsWriting WriteFault = Unit {0}
IsWriting Memory = Unit {0}
IsWriting e = ⊥

-- a manifest is too long, or memory ran out
abbrev pub IsManifestFault : PublishFault → Type 0
IsManifestFault (ManifestTooLong length) = Unit {0}
IsManifestFault Memory = Unit {0}
IsManifestFault e = ⊥

-- the folder failed, or memory ran out
abbrev pub IsDevice : PublishFault → Type 0
IsDevice ReadFault = Unit {0}
IsDevice WriteFault = Unit {0}
IsDevice Memory = Unit {0}
IsDevice e = ⊥

-- the refusals of words and of the minimum come only where they are judged so
abbrev pub IsEarly : Option PlanFault → PublishFault → Type 0
IsEarly early (BadName word) = early ≡ Some (plan.BadName word)
IsEarly early (MinimumAbove minimum) = early ≡ Some (plan.MinimumAbove minimum)
IsEarly early e = Unit {0}
