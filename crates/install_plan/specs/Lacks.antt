-- Why files of a line did not come.
use Rattle.std.specs.Prelude.{◌≡◌}
use Rattle.machine.specs.declared.reply.Reply.{Reply}
use Rattle.machine.specs.declared.reply.Reply.TheVariants.{AllLinks as NoLink, Memory as NoMemory}
use Rattle.line_drafts.specs.declared.fault.DraftFault.{DraftFault}
use Rattle.line_drafts.specs.declared.fault.DraftFault.TheVariants.{AllLinks, Full, DiskFault, Memory}
use Rattle.install_plan.specs.declared.lack.Lack.{Lack}
use Rattle.install_plan.specs.declared.lack.Lack.TheVariants as by

-- what a draft's fault comes to
abbrev pub IsLackOf : DraftFault → Lack → Type 0
IsLackOf (AllLinks target causes) lack = lack ≡ by.Reply (NoLink target causes)
IsLackOf (Full need free) lack = ⊥
IsLackOf DiskFault lack = lack ≡ by.DiskFault
IsLackOf Memory lack = lack ≡ by.Reply NoMemory

-- As it is seen of the links: where the disk failed, as where there was no memory.
abbrev pub lack_reply : Lack → Reply
lack_reply (by.Reply reply) = reply
lack_reply by.DiskFault = NoMemory

-- it is want of memory, or the disk's fault
abbrev pub IsPlainLack : Lack → Type 0
IsPlainLack lack = lack_reply lack ≡ NoMemory
