use Rattle.publisher.proofs.FaultCounts.{counted_after}
use Rattle.publisher.proofs.TwoReadings.{copied, never_other}
use Rattle.publisher.proofs.copies.copy_file.Goals as goal

pub returns-clause-counted : goal.returns-clause-counted
returns-clause-counted g c =
    counted_after (g.F.Folder.count c.args.folder.now) (g.F.Folder.count c.read_again.new.folder) (g.F.Folder.count c.put_copy.new.folder) c.put_copy.result c.in_ok-bytes.ensures.counted.quiet c.put_copy.ensures.counted

pub returns-clause-noted : goal.returns-clause-noted
returns-clause-noted g c = λ records.
    copied c.args.file.now c.in_ok-bytes.bytes c.as_slice.result.now (g.F.Folder.answers c.args.folder.now) (g.F.Folder.answers c.read_again.new.folder) (g.F.Folder.answers c.put_copy.new.folder) c.put_copy.result (c.in_ok-bytes.ensures.noted records) (c.put_copy.ensures.noted records)

pub returns-clause-other : goal.returns-clause-other
returns-clause-other g c = λ records.
    never_other c.args.file.now c.args.entry.now (g.F.Folder.answers c.args.folder.now) (g.F.Folder.answers c.put_copy.new.folder) c.put_copy.result c.put_copy.ensures.writing
