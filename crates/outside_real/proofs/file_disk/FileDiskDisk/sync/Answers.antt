use Rattle.std.proofs.Common.{inl, rules}
use Rattle.disks.specs.declared.call.Move.TheVariants.{Sync}
use Rattle.outside_real.proofs.ToldCall.{called}
use Rattle.outside_real.proofs.DiskTells.{where_ok, noted_last, sync_told}
use Rattle.outside_real.proofs.file_disk.FileDiskDisk.sync.Goals as goal

pub returns-clause-seen : goal.returns-clause-seen
returns-clause-seen g c =
    (sync_told g.S.Start.first g.S.Start.left c.args.self.now.told.answers.noted c.count.new.self.answers.noted c.sync.new.self.answers.noted c.args.self.now.told.calls c.count.new.self.calls c.sync.new.self.calls
    c.is_ok.result g.S.Start.first_left c.count.ensures.answers (c.count.ensures.counted c.if-not-count.false).0 c.sync.ensures.noted c.sync.ensures.calls c.args.self.now.told.numbered).seen

pub returns-clause-durable : goal.returns-clause-durable
returns-clause-durable g c =
    where_ok c.counted-2.ensures.result c.is_ok.ensures.value
    (sync_told g.S.Start.first g.S.Start.left c.args.self.now.told.answers.noted c.count.new.self.answers.noted c.sync.new.self.answers.noted c.args.self.now.told.calls c.count.new.self.calls c.sync.new.self.calls
    c.is_ok.result g.S.Start.first_left c.count.ensures.answers (c.count.ensures.counted c.if-not-count.false).0 c.sync.ensures.noted c.sync.ensures.calls c.args.self.now.told.numbered).durable

pub returns-clause-stop : goal.returns-clause-stop
returns-clause-stop g c =
    (sync_told g.S.Start.first g.S.Start.left c.args.self.now.told.answers.noted c.count.new.self.answers.noted c.sync.new.self.answers.noted c.args.self.now.told.calls c.count.new.self.calls c.sync.new.self.calls
    c.is_ok.result g.S.Start.first_left c.count.ensures.answers (c.count.ensures.counted c.if-not-count.false).0 c.sync.ensures.noted c.sync.ensures.calls c.args.self.now.told.numbered).stop

pub returns-clause-changes : goal.returns-clause-changes
returns-clause-changes g c =
    let is = sync_told g.S.Start.first g.S.Start.left c.args.self.now.told.answers.noted c.count.new.self.answers.noted c.sync.new.self.answers.noted c.args.self.now.told.calls c.count.new.self.calls c.sync.new.self.calls
    c.is_ok.result g.S.Start.first_left c.count.ensures.answers (c.count.ensures.counted c.if-not-count.false).0 c.sync.ensures.noted c.sync.ensures.calls c.args.self.now.told.numbered in
    record {
      call = called g.S.Start is.passes c.counted-2.ensures.cause c.counted-2.ensures.raised (search rules);
      none = search rules;
      tick = search rules;
      lost = search rules;
    }

pub returns-clause-noted : goal.returns-clause-noted
returns-clause-noted g c =
    inl (noted_last (Sync) c.is_ok.result c.args.self.now.told.answers.noted c.count.new.self.answers.noted c.sync.new.self.answers.noted c.args.self.now.told.calls c.count.new.self.calls c.sync.new.self.calls
    c.counted-2.ensures.result c.is_ok.ensures.value c.count.ensures.answers (c.count.ensures.counted c.if-not-count.false).0 c.sync.ensures.noted c.sync.ensures.calls)
