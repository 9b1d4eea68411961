use Rattle.publisher.proofs.FaultCounts.{putting_counted, writing_is}
use Rattle.publisher.proofs.copies.put_file.Goals as goal

pub returns-in-Err-clause-writing : goal.returns-in-Err-clause-writing
returns-in-Err-clause-writing g c = writing_is c.in-Err.fault c.fault_of_putting.result c.fault_of_putting.ensures

pub returns-in-Err-clause-counted : goal.returns-in-Err-clause-counted
returns-in-Err-clause-counted g c =
    putting_counted (g.F.Folder.count c.args.folder.now) (g.F.Folder.count c.put.new.self) c.in-Err.fault c.fault_of_putting.result c.fault_of_putting.ensures c.in-Err.ensures.cause
