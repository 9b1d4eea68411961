use Rattle.publisher.proofs.EntryReads.{found_long}
use Rattle.publisher.proofs.entries.read_within.Goals as goal

pub returns-in_ok-copy-in-Ok-TooLong-clause-refused : goal.returns-in_ok-copy-in-Ok-TooLong-clause-refused
returns-in_ok-copy-in-Ok-TooLong-clause-refused g c = λ told.
    found_long (g.F.Folder.held c.args.folder.now) c.args.file.now c.in-Ok-TooLong.field-0 c.in-Ok-TooLong.length c.limit_of.result c.get_within.new.into c.in_ok-copy-in-Ok-TooLong.field-0
    c.in-Ok-TooLong.field-0-is c.limit_of.ensures (c.in-Ok-TooLong.ensures.found told) c.in-Ok-TooLong.ensures.within c.in_ok-copy-in-Ok-TooLong.ensures
