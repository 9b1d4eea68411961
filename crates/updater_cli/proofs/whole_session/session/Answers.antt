use Rattle.std.proofs.Common.{◌∙◌, Err, refl, sym, ap}
use Rattle.updater_cli.specs.declared.status.Status.TheVariants.{Words, SourceFault, SinkFault}
use Rattle.updater_cli.specs.Lines.{place_of}
use Rattle.updater_cli.proofs.DeviceCalls.{rises_none}
use Rattle.updater_cli.proofs.Whole.{opening_ends, never_opening, unopened_headline, unopened_nothing, unopened_reads, unopened_asks, never_unopened, never_words, opened_reads, opened_writes, opened_asks, opened_headline}
use Rattle.updater_cli.proofs.whole_session.session.Goals as goal

pub returns-in-Err-clause-headline : goal.returns-in-Err-clause-headline
returns-in-Err-clause-headline g c =
    unopened_headline g.S.Source g.K.Sink g.D.Disk g.L.Links c.args.boot c.args.now c.args.source.now c.args.sink.now c.args.links.now c.args.disk.now c.open.new.disk c.in-Err.status c.in-Err.ensures c.put_report.new.report (c.put_report.ensures ∙ c.unopened_report.ensures) c.requires.boot

pub returns-in-Err-clause-not_a_store : goal.returns-in-Err-clause-not_a_store
returns-in-Err-clause-not_a_store g c = λ told is. c.in-Err.ensures.not_a_store told (ap Err is)

pub returns-in-Err-clause-no_store : goal.returns-in-Err-clause-no_store
returns-in-Err-clause-no_store g c = λ told none. opening_ends c.in-Err.status c.in-Err.ensures.ends

pub returns-in-Err-clause-unopened : goal.returns-in-Err-clause-unopened
returns-in-Err-clause-unopened g c = λ is. (
  refl,
  refl,
  refl,
  c.in-Err.ensures.unwritten (ap Err is),
  unopened_nothing g.S.Source g.K.Sink g.D.Disk g.L.Links c.args.boot c.args.now c.args.source.now c.args.sink.now c.args.links.now c.args.disk.now c.open.new.disk c.in-Err.status c.in-Err.ensures c.put_report.new.report (c.put_report.ensures ∙ c.unopened_report.ensures) is,
)

pub returns-in-Err-clause-unopened_reads : goal.returns-in-Err-clause-unopened_reads
returns-in-Err-clause-unopened_reads g c =
    unopened_reads g.S.Source g.K.Sink g.D.Disk g.L.Links c.args.boot c.args.now c.args.source.now c.args.sink.now c.args.links.now c.args.disk.now c.open.new.disk c.in-Err.status c.in-Err.ensures c.put_report.new.report (c.put_report.ensures ∙ c.unopened_report.ensures)

pub returns-in-Err-clause-words : goal.returns-in-Err-clause-words
returns-in-Err-clause-words g c = never_opening c.in-Err.status Words (λ never. never) c.in-Err.ensures.ends

pub returns-in-Err-clause-reads : goal.returns-in-Err-clause-reads
returns-in-Err-clause-reads g c = rises_none _ _ _ (never_opening c.in-Err.status SourceFault (λ never. never) c.in-Err.ensures.ends) refl

pub returns-in-Err-clause-writes : goal.returns-in-Err-clause-writes
returns-in-Err-clause-writes g c = rises_none _ _ _ (never_opening c.in-Err.status SinkFault (λ never. never) c.in-Err.ensures.ends) refl

pub returns-in-Err-clause-asks : goal.returns-in-Err-clause-asks
returns-in-Err-clause-asks g c =
    unopened_asks g.S.Source g.K.Sink g.D.Disk g.L.Links c.args.boot c.args.now c.args.source.now c.args.sink.now c.args.links.now c.args.disk.now c.open.new.disk c.in-Err.status c.in-Err.ensures c.put_report.new.report (c.put_report.ensures ∙ c.unopened_report.ensures)

pub returns-clause-headline : goal.returns-clause-headline
returns-clause-headline g c =
    rw c.end_status.ensures
    (opened_headline g.S.Source g.K.Sink g.D.Disk g.L.Links c.args.boot c.args.now c.args.disk.now c.args.source.now c.answer_all-outcome.new.source (place_of c.args.sink.now c.open.new.disk c.args.links.now c.in-Ok.course)
    (place_of c.answer_all-outcome.new.sink c.answer_all-outcome.new.disk c.answer_all-outcome.new.links c.answer_all-outcome.new.course) c.answer_all-outcome.result c.in-Ok.ensures c.answer_all-outcome.ensures
    (g.met.D.Disk.seen_left c.answer_all-outcome.new.disk) c.requires.boot c.put_report-2.new.report (c.put_report-2.ensures ∙ c.report_of.ensures))

pub returns-clause-not_a_store : goal.returns-clause-not_a_store
returns-clause-not_a_store g c = λ told five.
    absurd (never_unopened g.S.Source g.K.Sink g.D.Disk g.L.Links c.args.boot c.args.now c.args.disk.now c.args.source.now c.answer_all-outcome.new.source (place_of c.args.sink.now c.open.new.disk c.args.links.now c.in-Ok.course)
    (place_of c.answer_all-outcome.new.sink c.answer_all-outcome.new.disk c.answer_all-outcome.new.links c.answer_all-outcome.new.course) c.answer_all-outcome.result c.in-Ok.ensures c.answer_all-outcome.ensures (sym c.end_status.ensures ∙ five))

pub returns-clause-no_store : goal.returns-clause-no_store
returns-clause-no_store g c = λ told none. absurd (c.in-Ok.ensures.a_store (c.answer_all-outcome.ensures.keeps.asks.told told) none)

pub returns-clause-unopened : goal.returns-clause-unopened
returns-clause-unopened g c = λ five.
    absurd (never_unopened g.S.Source g.K.Sink g.D.Disk g.L.Links c.args.boot c.args.now c.args.disk.now c.args.source.now c.answer_all-outcome.new.source (place_of c.args.sink.now c.open.new.disk c.args.links.now c.in-Ok.course)
    (place_of c.answer_all-outcome.new.sink c.answer_all-outcome.new.disk c.answer_all-outcome.new.links c.answer_all-outcome.new.course) c.answer_all-outcome.result c.in-Ok.ensures c.answer_all-outcome.ensures (sym c.end_status.ensures ∙ five))

pub returns-clause-unopened_reads : goal.returns-clause-unopened_reads
returns-clause-unopened_reads g c = λ five.
    absurd (never_unopened g.S.Source g.K.Sink g.D.Disk g.L.Links c.args.boot c.args.now c.args.disk.now c.args.source.now c.answer_all-outcome.new.source (place_of c.args.sink.now c.open.new.disk c.args.links.now c.in-Ok.course)
    (place_of c.answer_all-outcome.new.sink c.answer_all-outcome.new.disk c.answer_all-outcome.new.links c.answer_all-outcome.new.course) c.answer_all-outcome.result c.in-Ok.ensures c.answer_all-outcome.ensures (sym c.end_status.ensures ∙ five))

pub returns-clause-words : goal.returns-clause-words
returns-clause-words g c = λ one.
    never_words g.S.Source g.K.Sink g.D.Disk g.L.Links c.args.boot c.args.now c.args.disk.now c.args.source.now c.answer_all-outcome.new.source (place_of c.args.sink.now c.open.new.disk c.args.links.now c.in-Ok.course)
    (place_of c.answer_all-outcome.new.sink c.answer_all-outcome.new.disk c.answer_all-outcome.new.links c.answer_all-outcome.new.course) c.answer_all-outcome.result c.in-Ok.ensures c.answer_all-outcome.ensures (sym c.end_status.ensures ∙ one)

pub returns-clause-reads : goal.returns-clause-reads
returns-clause-reads g c =
    rw c.end_status.ensures
    (opened_reads g.S.Source g.K.Sink g.D.Disk g.L.Links c.args.boot c.args.now c.args.disk.now c.args.source.now c.answer_all-outcome.new.source (place_of c.args.sink.now c.open.new.disk c.args.links.now c.in-Ok.course)
    (place_of c.answer_all-outcome.new.sink c.answer_all-outcome.new.disk c.answer_all-outcome.new.links c.answer_all-outcome.new.course) c.answer_all-outcome.result c.in-Ok.ensures c.answer_all-outcome.ensures)

pub returns-clause-writes : goal.returns-clause-writes
returns-clause-writes g c =
    rw c.end_status.ensures
    (opened_writes g.S.Source g.K.Sink g.D.Disk g.L.Links c.args.boot c.args.now c.args.disk.now c.args.source.now c.answer_all-outcome.new.source (place_of c.args.sink.now c.open.new.disk c.args.links.now c.in-Ok.course)
    (place_of c.answer_all-outcome.new.sink c.answer_all-outcome.new.disk c.answer_all-outcome.new.links c.answer_all-outcome.new.course) c.answer_all-outcome.result c.in-Ok.ensures c.answer_all-outcome.ensures)

pub returns-clause-asks : goal.returns-clause-asks
returns-clause-asks g c =
    rw c.end_status.ensures
    (opened_asks g.S.Source g.K.Sink g.D.Disk g.L.Links c.args.boot c.args.now c.args.disk.now c.args.source.now c.answer_all-outcome.new.source (place_of c.args.sink.now c.open.new.disk c.args.links.now c.in-Ok.course)
    (place_of c.answer_all-outcome.new.sink c.answer_all-outcome.new.disk c.answer_all-outcome.new.links c.answer_all-outcome.new.course) c.answer_all-outcome.result c.in-Ok.ensures c.answer_all-outcome.ensures)
