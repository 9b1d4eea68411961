use Rattle.std.proofs.Common.{Err, subst}
use Rattle.updater.specs.declared.fault.RecoverFault.{RecoverFault}
use Rattle.updater.specs.Opened.{Opened}
use Rattle.demo.proofs.NewStore.{begins, breaks, lacks, reads_none}
use Rattle.demo.proofs.run.open_new.Goals as goal

pub returns-in-Ok : goal.returns-in-Ok
returns-in-Ok g c = begins g.D.Disk c.args.disk.now c.recover.new.disk c.in-Ok.opened c.in-Ok.ensures c.requires

pub returns-in-Err-DiskFault : goal.returns-in-Err-DiskFault
returns-in-Err-DiskFault g c = breaks g.D.Disk c.args.disk.now c.recover.new.disk
    (subst (λ (fault : RecoverFault). Opened g.D.Disk 1 c.args.disk.now (Err fault) c.recover.new.disk) c.in-Err-DiskFault.field-0-is c.in-Err-DiskFault.ensures)

pub returns-in-Err-NotAStore : goal.returns-in-Err-NotAStore
returns-in-Err-NotAStore g c = reads_none g.D.Disk c.args.disk.now c.recover.new.disk
    (subst (λ (fault : RecoverFault). Opened g.D.Disk 1 c.args.disk.now (Err fault) c.recover.new.disk) c.in-Err-NotAStore.field-0-is c.in-Err-NotAStore.ensures) c.requires

pub returns-in-Err-Memory : goal.returns-in-Err-Memory
returns-in-Err-Memory g c = lacks g.D.Disk c.args.disk.now c.recover.new.disk
    (subst (λ (fault : RecoverFault). Opened g.D.Disk 1 c.args.disk.now (Err fault) c.recover.new.disk) c.in-Err-Memory.field-0-is c.in-Err-Memory.ensures)
