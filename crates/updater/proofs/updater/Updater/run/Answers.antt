use Rattle.updater.proofs.CommandEnds.{moment_told}
use Rattle.updater.proofs.updater.Updater.run.Goals as goal

pub returns-in-At : goal.returns-in-At
returns-in-At g c = moment_told g.D.Disk g.L.Links c.args.now c.in-At.next c.args.heard.now.texts c.args.command.now c.args.self.now c.args.disk.now c.args.links.now (g.met.D.Disk.seen_left c.args.disk.now) c.requires.moment c.requires.command c.in-At.is c.requires.empty
