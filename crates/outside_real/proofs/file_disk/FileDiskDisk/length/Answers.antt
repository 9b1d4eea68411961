use Rattle.std.proofs.Common.{rules, ◌≡◌, length, sym, subst}
use Rattle.std.specs.Prelude.{IfOk, Result}
use Rattle.disks.specs.Answers.{seen_after}
use Rattle.outside_real.proofs.ToldCall.{called, quiet_passes}
use Rattle.outside_real.proofs.DiskTells.{length_quiet, length_true}
use Rattle.outside_real.proofs.file_disk.FileDiskDisk.length.Goals as goal

pub returns-clause-bytes : goal.returns-clause-bytes
returns-clause-bytes g c = λ honest.
    subst (λ (r : Result _ _). IfOk r (λ n. n ≡ length (seen_after g.S.Start.first c.args.self.now.told.answers.noted))) (sym c.counted.ensures.result)
    (length_true g.S.Start.first c.args.self.now.told.answers.noted c.length.new.self.answers.noted c.length-answer.result c.length.ensures.noted honest)

pub returns-clause-reads : goal.returns-clause-reads
returns-clause-reads g c =
    let quiet = length_quiet c.args.self.now.told.answers.noted c.length.new.self.answers.noted c.length-answer.result c.length.ensures.noted in
    record {
      call = called g.S.Start (quiet_passes quiet) c.counted.ensures.cause c.counted.ensures.raised (search rules);
      still = search rules;
      seen = quiet.seen g.S.Start.first;
      lost = c.length-answer.ensures.lost;
    }
