-- How a command ends once its change was tried.
use Rattle.std.specs.Prelude.{◌≡◌, Result, Ok, Err}
use Rattle.outside.specs.declared.failed.Failed.{Failed}
use Rattle.machine.specs.declared.reply.Reply.{Reply}
use Rattle.machine.specs.declared.reply.Reply.TheVariants as says
use Rattle.table_log.specs.declared.fault.StepFault.{StepFault}
use Rattle.table_log.specs.declared.fault.StepFault.TheVariants.{Memory, DiskFault}

-- with its reply, with want of memory, or as the disk failed
abbrev pub IsAnswer : {T : Type 0} → Reply → Result T StepFault → Result Reply Failed → Type 0
IsAnswer reply (Ok done) result = result ≡ Ok reply
IsAnswer reply (Err Memory) result = result ≡ Ok says.Memory
IsAnswer reply (Err DiskFault) result = result ≡ Err (record {})
