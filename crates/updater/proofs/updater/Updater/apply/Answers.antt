use Rattle.std.proofs.Common.{◌<◌, [], arith, rules}
use Rattle.updater.proofs.HeardBehind.{memory_at_once}
use Rattle.updater.proofs.updater.Updater.apply.Goals as goal

pub returns-in-Err : goal.returns-in-Err
returns-in-Err g c =
    let full = c.in-Err.ensures.full in
    let within = c.into_vec-texts.result.ok.1 in
    let some : 0 < c.most_texts.result = omega (arith, full, within) in
    record {
      texts = [];
      behind = search rules;
      commanded = memory_at_once g.D.Disk g.L.Links c.args.now c.args.command.now c.args.self.now c.args.disk.now c.args.links.now (g.met.D.Disk.seen_left c.args.disk.now) c.requires.moment (c.most_texts.ensures.some some);
    }

pub returns : goal.returns
returns g c = record {
  texts = c.run-answer.new.heard.texts;
  behind = search rules;
  commanded = c.run-answer.ensures;
}
