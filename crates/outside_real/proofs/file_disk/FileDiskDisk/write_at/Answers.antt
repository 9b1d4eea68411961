use Rattle.std.proofs.Common.{inl, rules}
use Rattle.disks.specs.declared.call.Move.TheVariants.{Write}
use Rattle.outside_real.proofs.ToldCall.{called}
use Rattle.outside_real.proofs.DiskTells.{where_ok, noted_last, write_told}
use Rattle.outside_real.proofs.file_disk.FileDiskDisk.write_at.Goals as goal

pub returns-clause-seen : goal.returns-clause-seen
returns-clause-seen g c =
    (write_told g.S.Start.first g.S.Start.left c.args.self.now.told.answers.noted c.count.new.self.answers.noted c.write.new.self.answers.noted c.args.self.now.told.calls c.count.new.self.calls c.write.new.self.calls
    c.args.place c.args.bytes.now c.is_ok.result c.count.ensures.answers (c.count.ensures.counted c.if-not-count.false).0 c.write.ensures.noted c.write.ensures.calls c.args.self.now.told.numbered).seen

pub returns-clause-written : goal.returns-clause-written
returns-clause-written g c =
    where_ok c.counted-2.ensures.result c.is_ok.ensures.value
    (write_told g.S.Start.first g.S.Start.left c.args.self.now.told.answers.noted c.count.new.self.answers.noted c.write.new.self.answers.noted c.args.self.now.told.calls c.count.new.self.calls c.write.new.self.calls
    c.args.place c.args.bytes.now c.is_ok.result c.count.ensures.answers (c.count.ensures.counted c.if-not-count.false).0 c.write.ensures.noted c.write.ensures.calls c.args.self.now.told.numbered).written

pub returns-clause-stop : goal.returns-clause-stop
returns-clause-stop g c =
    (write_told g.S.Start.first g.S.Start.left c.args.self.now.told.answers.noted c.count.new.self.answers.noted c.write.new.self.answers.noted c.args.self.now.told.calls c.count.new.self.calls c.write.new.self.calls
    c.args.place c.args.bytes.now c.is_ok.result c.count.ensures.answers (c.count.ensures.counted c.if-not-count.false).0 c.write.ensures.noted c.write.ensures.calls c.args.self.now.told.numbered).stop

pub returns-clause-changes : goal.returns-clause-changes
returns-clause-changes g c =
    let is = write_told g.S.Start.first g.S.Start.left c.args.self.now.told.answers.noted c.count.new.self.answers.noted c.write.new.self.answers.noted c.args.self.now.told.calls c.count.new.self.calls c.write.new.self.calls
    c.args.place c.args.bytes.now c.is_ok.result c.count.ensures.answers (c.count.ensures.counted c.if-not-count.false).0 c.write.ensures.noted c.write.ensures.calls c.args.self.now.told.numbered in
    record {
      call = called g.S.Start is.passes c.counted-2.ensures.cause c.counted-2.ensures.raised (search rules);
      none = search rules;
      tick = search rules;
      lost = search rules;
    }

pub returns-clause-noted : goal.returns-clause-noted
returns-clause-noted g c =
    inl (noted_last (Write c.args.place c.args.bytes.now) c.is_ok.result c.args.self.now.told.answers.noted c.count.new.self.answers.noted c.write.new.self.answers.noted c.args.self.now.told.calls c.count.new.self.calls c.write.new.self.calls
    c.counted-2.ensures.result c.is_ok.ensures.value c.count.ensures.answers (c.count.ensures.counted c.if-not-count.false).0 c.write.ensures.noted c.write.ensures.calls)
