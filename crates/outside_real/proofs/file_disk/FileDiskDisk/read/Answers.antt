use Rattle.std.proofs.Common.{rules, sym, subst}
use Rattle.std.specs.Prelude.{IfOk, Result}
use Rattle.disks.specs.Answers.{seen_after}
use Rattle.disks.specs.Disk.{Gives}
use Rattle.outside_real.proofs.ToldCall.{called, quiet_passes}
use Rattle.outside_real.proofs.DiskTells.{read_quiet, read_true}
use Rattle.outside_real.proofs.file_disk.FileDiskDisk.read.Goals as goal

pub returns-clause-bytes : goal.returns-clause-bytes
returns-clause-bytes g c = λ honest.
    subst (λ (r : Result _ _). IfOk r (λ n. Gives (seen_after g.S.Start.first c.args.self.now.told.answers.noted) c.args.place c.args.buf.now c.read-answer.new.buf n)) (sym c.counted.ensures.result)
    (read_true g.S.Start.first c.args.self.now.told.answers.noted c.read.new.self.answers.noted c.args.place c.args.buf.now c.read-answer.new.buf c.read-answer.result c.read.ensures.noted c.read-answer.ensures.within c.read-answer.auto.buf c.read-answer.ensures.rest honest)

pub returns-clause-reads : goal.returns-clause-reads
returns-clause-reads g c =
    let quiet = read_quiet c.args.self.now.told.answers.noted c.read.new.self.answers.noted c.args.place c.read-answer.new.buf c.read-answer.result c.read.ensures.noted in
    record {
      call = called g.S.Start (quiet_passes quiet) c.counted.ensures.cause c.counted.ensures.raised (search rules);
      still = search rules;
      seen = quiet.seen g.S.Start.first;
      lost = c.read-answer.ensures.lost;
    }
