-- What the fault of a publish is, where the folder never fails.
use Rattle.publisher.specs.declared.fault.PublishFault.{PublishFault}
use Rattle.publisher.specs.declared.fault.PublishFault.TheVariants.{ReadFault, WriteFault, Changed, Memory}
use Rattle.generated_release.specs.declared.fault.GenerationFault.{GenerationFault}
use Rattle.generated_release.specs.declared.fault.GenerationFault.TheVariants as release

-- it is none of the folder, and no file changed
abbrev pub IsSure : PublishFault → Type 0
IsSure ReadFault = ⊥
IsSure WriteFault = ⊥
IsSure (Changed file difference) = ⊥
IsSure e = Unit {0}

-- memory ran out, or the files are refused
abbrev pub fault_of : PublishFault → GenerationFault
fault_of Memory = release.Memory
fault_of e = release.Refused
