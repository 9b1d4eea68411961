use Rattle.publication.proofs.EndCounts.{folder_quiet, read_rose, write_rose}
use Rattle.publication.proofs.publication.publish_options.Goals as goal

pub returns-clause-done : goal.returns-clause-done
returns-clause-done g c = record {
  result = c.publish-done.result;
  published = c.publish-done.ensures;
  ended = c.say_done.ensures.ended;
}

pub returns-clause-read_cause : goal.returns-clause-read_cause
returns-clause-read_cause g c =
    read_rose g.K.Sink.tells g.K.Sink.taken c.args.sink.now c.say_done.new.sink c.publish-done.result c.say_done.result (g.F.Folder.count c.args.folder.now) (g.F.Folder.count c.publish-done.new.folder)
    c.say_done.ensures.ended c.publish-done.ensures.counted

pub returns-clause-write_cause : goal.returns-clause-write_cause
returns-clause-write_cause g c =
    write_rose g.K.Sink.tells g.K.Sink.taken c.args.sink.now c.say_done.new.sink c.publish-done.result c.say_done.result (g.F.Folder.count c.args.folder.now) (g.F.Folder.count c.publish-done.new.folder)
    c.say_done.ensures.ended c.publish-done.ensures.counted

pub returns-clause-folder_quiet : goal.returns-clause-folder_quiet
returns-clause-folder_quiet g c =
    folder_quiet g.K.Sink.tells g.K.Sink.taken c.args.sink.now c.say_done.new.sink c.publish-done.result c.say_done.result (g.F.Folder.count c.args.folder.now) (g.F.Folder.count c.publish-done.new.folder)
    c.say_done.ensures.ended c.publish-done.ensures.counted
