use Rattle.journal.specs.Layout.{part_at}
use Rattle.journal.proofs.PartReads.{read_whole, short_part, first_none}
use Rattle.journal.proofs.read.read_part.Goals as goal

pub returns-clause-bytes : goal.returns-clause-bytes
returns-clause-bytes g c = λ told.
    let part = part_at c.args.place c.args.count (g.D.Disk.seen c.args.disk.now) in
    read_whole c.read_on.new.bytes.items part c.args.count (c.read_on.ensures.bytes told (first_none c.new-bytes.result.items part c.new-bytes.ensures.items))
    (short_part c.args.place c.args.count (g.D.Disk.seen c.args.disk.now)) (c.in_ok-read_on.ensures.enough told)
