use Rattle.updater_cli.proofs.Publishable.{publishes_where_it_may}
use Rattle.updater_cli.proofs.laws.publishes_where_it_may.Goals as goal

pub returns : goal.returns
returns g c = publishes_where_it_may g.F.Folder g.K.Sink c.args.old.now c.args.new.now c.args.sink_old.now c.args.sink.now
