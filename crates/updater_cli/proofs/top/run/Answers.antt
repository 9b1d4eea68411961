use Rattle.std.proofs.Common.{rules, arith, ◌≡◌, ◌≢◌, Some, Err, inr, refl, sym, ◌∙◌, ap}
use Rattle.updater_cli.specs.declared.status.Status.{Status}
use Rattle.updater_cli.specs.declared.status.Status.TheVariants.{Done, Words, SourceFault, SinkFault, DiskFault, NotAStore, Memory, TooMuchInput}
use Rattle.updater_cli.specs.Complete.{AnswersAll}
use Rattle.updater_cli.specs.Demonstration.{NotesFault, RunsDemo}
use Rattle.updater_cli.specs.Devices.{devices_of}
use Rattle.updater_cli.specs.Format.{MakesStore}
use Rattle.updater_cli.specs.Headline.{Headline}
use Rattle.updater_cli.specs.Requests.{InspectsInput, PublishesBy}
use Rattle.updater_cli.specs.Status.{code_of}
use Rattle.updater_cli.specs.Words.{request_of}
use Rattle.updater_cli.proofs.Asked.{for_session, for_format, for_inspect, for_publish, for_demo}
use Rattle.updater_cli.proofs.Complete.{answers_all}
use Rattle.updater_cli.proofs.PublishWords.{no_session, no_format, no_inspect, no_demo, no_others, refused_session, refused_format, refused_inspect, refused_demo, refused_others}
use Rattle.updater_cli.proofs.PublishEnds.{publishes, publishes_nothing}
use Rattle.updater_cli.proofs.top.run.Goals as goal

-- five is the code of no other status
is_not_a_store : (status : Status) → code_of status ≡ 5 → status ≡ NotAStore
is_not_a_store NotAStore five = refl
is_not_a_store Done five = absurd (omega arith)
is_not_a_store Words five = absurd (omega arith)
is_not_a_store SourceFault five = absurd (omega arith)
is_not_a_store SinkFault five = absurd (omega arith)
is_not_a_store DiskFault five = absurd (omega arith)
is_not_a_store Memory five = absurd (omega arith)
is_not_a_store TooMuchInput five = absurd (omega arith)

pub returns-in-Ok-Session-clause-not_a_store : goal.returns-in-Ok-Session-clause-not_a_store
returns-in-Ok-Session-clause-not_a_store g c = λ told five. c.session.ensures.not_a_store told (is_not_a_store c.session.result (sym c.code-in-Ok-Session.ensures ∙ five))

pub returns-in-Ok-Session-clause-headline : goal.returns-in-Ok-Session-clause-headline
returns-in-Ok-Session-clause-headline g c =
    for_session (request_of c.args.words.now)
    (λ boot now. Headline g.S.Source g.K.Sink g.D.Disk g.L.Links boot now c.code-in-Ok-Session.result (devices_of c.args.source.now c.args.sink.now c.args.disk.now c.args.links.now) (devices_of c.session.new.source c.session.new.sink c.session.new.disk c.session.new.links) c.session.new.report)
    c.in-Ok-Session.boot c.in-Ok-Session.now (c.in-Ok-Session.ensures.request ∙ ap Some c.in-Ok-Session.field-0-is) (rw c.code-in-Ok-Session.ensures c.session.ensures.headline)

pub returns-in-Ok-Session-clause-complete : goal.returns-in-Ok-Session-clause-complete
returns-in-Ok-Session-clause-complete g c =
    for_session (request_of c.args.words.now)
    (λ boot now. AnswersAll g.S.Source g.K.Sink g.D.Disk g.L.Links boot now c.code-in-Ok-Session.result (devices_of c.args.source.now c.args.sink.now c.args.disk.now c.args.links.now) (devices_of c.session.new.source c.session.new.sink c.session.new.disk c.session.new.links) c.session.new.report)
    c.in-Ok-Session.boot c.in-Ok-Session.now (c.in-Ok-Session.ensures.request ∙ ap Some c.in-Ok-Session.field-0-is)
    (rw c.code-in-Ok-Session.ensures
    (answers_all g.S.Source g.K.Sink g.D.Disk g.L.Links c.in-Ok-Session.boot c.in-Ok-Session.now (devices_of c.args.source.now c.args.sink.now c.args.disk.now c.args.links.now)
    (devices_of c.session.new.source c.session.new.sink c.session.new.disk c.session.new.links) c.session.new.report c.session.result c.session.ensures.headline c.session.ensures.words c.session.ensures.not_a_store
    c.session.ensures.reads c.session.ensures.writes c.session.ensures.asks))

pub returns-in-Ok-Format-clause-format : goal.returns-in-Ok-Format-clause-format
returns-in-Ok-Format-clause-format g c =
    for_format (request_of c.args.words.now) (λ room. MakesStore g.D.Disk room c.code-in-Ok-Format.result c.args.disk.now c.format.new.disk)
    _ (c.in-Ok-Format.ensures.request ∙ ap Some c.in-Ok-Format.field-0-is) (rw c.code-in-Ok-Format.ensures c.format.ensures.makes)

pub returns-in-Ok-Inspect-clause-inspect : goal.returns-in-Ok-Inspect-clause-inspect
returns-in-Ok-Inspect-clause-inspect g c =
    for_inspect (request_of c.args.words.now) (λ kind. InspectsInput g.S.Source g.K.Sink kind c.code-in-Ok-Inspect.result c.args.source.now c.inspect.new.source c.args.sink.now c.inspect.new.sink)
    c.in-Ok-Inspect.kind (c.in-Ok-Inspect.ensures.request ∙ ap Some c.in-Ok-Inspect.field-0-is)
    (record { end = c.inspect.result; code = c.code-in-Ok-Inspect.ensures; says = c.inspect.ensures.says; left = c.inspect.ensures.left; taken = c.inspect.ensures.taken; nothing = c.inspect.ensures.nothing; statuses = search rules })

pub returns-in-Ok-Demo-clause-demo : goal.returns-in-Ok-Demo-clause-demo
returns-in-Ok-Demo-clause-demo g c =
    for_demo (request_of c.args.words.now) (λ seed. RunsDemo g.K.Sink g.D.Disk seed c.code-in-Ok-Demo.result c.args.sink.now c.demonstrate.new.sink c.args.disk.now c.demonstrate.new.disk)
    c.in-Ok-Demo.seed (c.in-Ok-Demo.ensures.request ∙ ap Some c.in-Ok-Demo.field-0-is) (rw c.code-in-Ok-Demo.ensures c.demonstrate.ensures.runs)

pub returns-in-Ok-Demo-clause-demo_note : goal.returns-in-Ok-Demo-clause-demo_note
returns-in-Ok-Demo-clause-demo_note g c =
    for_demo (request_of c.args.words.now) (λ seed. NotesFault g.D.Disk c.code-in-Ok-Demo.result c.demonstrate.new.disk c.args.note.now c.demonstrate.new.note)
    c.in-Ok-Demo.seed (c.in-Ok-Demo.ensures.request ∙ ap Some c.in-Ok-Demo.field-0-is) (rw c.code-in-Ok-Demo.ensures c.demonstrate.ensures.notes)

pub returns-in-Ok-Publish-clause-publish : goal.returns-in-Ok-Publish-clause-publish
returns-in-Ok-Publish-clause-publish g c =
    for_publish (request_of c.args.words.now) (λ options. c.code-in-Ok-Publish.result ≢ 1 → PublishesBy g.F.Folder g.K.Sink options c.code-in-Ok-Publish.result c.args.folder.now c.publish_options.new.folder c.args.sink.now c.publish_options.new.sink)
    c.in-Ok-Publish.options (c.in-Ok-Publish.ensures.request ∙ ap Some c.in-Ok-Publish.field-0-is)
    (λ other. publishes g.F.Folder g.K.Sink c.in-Ok-Publish.options c.args.folder.now c.publish_options.new.folder c.args.sink.now c.publish_options.new.sink c.publish_options.result c.publish_options.ensures.done
    c.publish_options.ensures.read_cause c.publish_options.ensures.write_cause c.publish_options.ensures.sink_cause c.code-in-Ok-Publish.result c.code-in-Ok-Publish.ensures)

pub returns-in-Err-Memory-clause-publish : goal.returns-in-Err-Memory-clause-publish
returns-in-Err-Memory-clause-publish g c = λ options asked other.
    publishes_nothing g.F.Folder g.K.Sink options c.args.folder.now c.args.sink.now c.code-in-Err-Memory.result c.code-in-Err-Memory.ensures

pub returns-in-Err-Unreadable-clause-headline : goal.returns-in-Err-Unreadable-clause-headline
returns-in-Err-Unreadable-clause-headline g c = λ boot now asked. absurd (refused_session c.args.words.now (c.in-Err-Unreadable.ensures.none (ap Err c.in-Err-Unreadable.field-0-is)) boot now asked)

pub returns-in-Err-Unreadable-clause-complete : goal.returns-in-Err-Unreadable-clause-complete
returns-in-Err-Unreadable-clause-complete g c = λ boot now asked. absurd (refused_session c.args.words.now (c.in-Err-Unreadable.ensures.none (ap Err c.in-Err-Unreadable.field-0-is)) boot now asked)

pub returns-in-Err-Unreadable-clause-format : goal.returns-in-Err-Unreadable-clause-format
returns-in-Err-Unreadable-clause-format g c = λ room asked. absurd (refused_format c.args.words.now (c.in-Err-Unreadable.ensures.none (ap Err c.in-Err-Unreadable.field-0-is)) room asked)

pub returns-in-Err-Unreadable-clause-inspect : goal.returns-in-Err-Unreadable-clause-inspect
returns-in-Err-Unreadable-clause-inspect g c = λ kind asked. absurd (refused_inspect c.args.words.now (c.in-Err-Unreadable.ensures.none (ap Err c.in-Err-Unreadable.field-0-is)) kind asked)

pub returns-in-Err-Unreadable-clause-demo : goal.returns-in-Err-Unreadable-clause-demo
returns-in-Err-Unreadable-clause-demo g c = λ seed asked. absurd (refused_demo c.args.words.now (c.in-Err-Unreadable.ensures.none (ap Err c.in-Err-Unreadable.field-0-is)) seed asked)

pub returns-in-Err-Unreadable-clause-demo_note : goal.returns-in-Err-Unreadable-clause-demo_note
returns-in-Err-Unreadable-clause-demo_note g c = λ seed asked. absurd (refused_demo c.args.words.now (c.in-Err-Unreadable.ensures.none (ap Err c.in-Err-Unreadable.field-0-is)) seed asked)

pub returns-in-Err-Unreadable-clause-publish : goal.returns-in-Err-Unreadable-clause-publish
returns-in-Err-Unreadable-clause-publish g c = λ options asked other. absurd (other c.code.ensures)

pub returns-in-Err-Unreadable-clause-no_store : goal.returns-in-Err-Unreadable-clause-no_store
returns-in-Err-Unreadable-clause-no_store g c = λ boot now asked told stands. absurd (refused_session c.args.words.now (c.in-Err-Unreadable.ensures.none (ap Err c.in-Err-Unreadable.field-0-is)) boot now asked)

pub returns-in-Err-Unreadable-clause-words : goal.returns-in-Err-Unreadable-clause-words
returns-in-Err-Unreadable-clause-words g c = λ one. c.in-Err-Unreadable.ensures.none (ap Err c.in-Err-Unreadable.field-0-is)

pub returns-in-Err-Unreadable-clause-other_words : goal.returns-in-Err-Unreadable-clause-other_words
returns-in-Err-Unreadable-clause-other_words g c = λ other. ((λ one. refused_others c.args.words.now (c.in-Err-Unreadable.ensures.none (ap Err c.in-Err-Unreadable.field-0-is)) other), (λ none. c.code.ensures))

pub returns-in-Err-Memory-clause-headline : goal.returns-in-Err-Memory-clause-headline
returns-in-Err-Memory-clause-headline g c = λ boot now asked. absurd (no_session c.args.words.now (c.in-Err-Memory.ensures.memory (ap Err c.in-Err-Memory.field-0-is)) boot now asked)

pub returns-in-Err-Memory-clause-complete : goal.returns-in-Err-Memory-clause-complete
returns-in-Err-Memory-clause-complete g c = λ boot now asked. absurd (no_session c.args.words.now (c.in-Err-Memory.ensures.memory (ap Err c.in-Err-Memory.field-0-is)) boot now asked)

pub returns-in-Err-Memory-clause-format : goal.returns-in-Err-Memory-clause-format
returns-in-Err-Memory-clause-format g c = λ room asked. absurd (no_format c.args.words.now (c.in-Err-Memory.ensures.memory (ap Err c.in-Err-Memory.field-0-is)) room asked)

pub returns-in-Err-Memory-clause-inspect : goal.returns-in-Err-Memory-clause-inspect
returns-in-Err-Memory-clause-inspect g c = λ kind asked. absurd (no_inspect c.args.words.now (c.in-Err-Memory.ensures.memory (ap Err c.in-Err-Memory.field-0-is)) kind asked)

pub returns-in-Err-Memory-clause-demo : goal.returns-in-Err-Memory-clause-demo
returns-in-Err-Memory-clause-demo g c = λ seed asked. absurd (no_demo c.args.words.now (c.in-Err-Memory.ensures.memory (ap Err c.in-Err-Memory.field-0-is)) seed asked)

pub returns-in-Err-Memory-clause-demo_note : goal.returns-in-Err-Memory-clause-demo_note
returns-in-Err-Memory-clause-demo_note g c = λ seed asked. absurd (no_demo c.args.words.now (c.in-Err-Memory.ensures.memory (ap Err c.in-Err-Memory.field-0-is)) seed asked)

pub returns-in-Err-Memory-clause-no_request : goal.returns-in-Err-Memory-clause-no_request
returns-in-Err-Memory-clause-no_request g c = λ none. inr (c.in-Err-Memory.ensures.memory (ap Err c.in-Err-Memory.field-0-is), c.code-in-Err-Memory.ensures)

pub returns-in-Err-Memory-clause-other_words : goal.returns-in-Err-Memory-clause-other_words
returns-in-Err-Memory-clause-other_words g c = λ other. absurd (no_others c.args.words.now (c.in-Err-Memory.ensures.memory (ap Err c.in-Err-Memory.field-0-is)) other)
