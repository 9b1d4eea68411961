use Rattle.std.proofs.Common.{rules, ◌≡◌, [], ◌∷◌, ◌++◌, Some, refl}
use Rattle.outside.specs.Streams.{Appends, AppendsPart, Rose}
use Rattle.machine.specs.declared.report.ReportLine.{ReportLine}
use Rattle.command_text.specs.Lines.{reply_text}
use Rattle.updater_cli.proofs.AnsweredLine.{no_room, broken, written, cut}
use Rattle.updater_cli.proofs.line.answer_line.Goals as goal

pub returns-in-Err : goal.returns-in-Err
returns-in-Err g c =
    no_room g.K.Sink g.D.Disk g.L.Links _ _ _ _ c.args.links.now c.requires _ _ (g.met.D.Disk.seen_left c.args.disk.now) refl c.reserve.ensures.items refl

pub returns-in-Err-ran : goal.returns-in-Err-ran
returns-in-Err-ran g c =
    broken g.K.Sink g.D.Disk g.L.Links _ _ _ _ c.run_line-ran.new.links c.requires _ _ _ c.in-Err-ran.event c.replace.ensures.after refl c.reserve.ensures.items c.in-Err-ran.ensures

pub returns-then-is_err : goal.returns-then-is_err
returns-then-is_err g c =
    let line : ReportLine = record { event = c.in-Ok-ran.answer.0; reply = Some c.in-Ok-ran.answer.1; mark = c.calls-mark.result; failures = c.failures-failures.result } in
    let grown : c.push.new.self.items ≡ c.args.course.now.lines.items ++ line ∷ [] = search rules in
    let part : g.K.Sink.tells → AppendsPart (g.K.Sink.taken c.args.sink.now) (g.K.Sink.taken c.print_reply-written.new.sink) (reply_text c.in-Ok-ran.answer.1) = search rules in
    let rose : Rose (g.K.Sink.count c.args.sink.now) (g.K.Sink.count c.print_reply-written.new.sink) = search rules in
    cut g.K.Sink g.D.Disk g.L.Links _ _ _ _ c.run_line-ran.new.links c.requires c.args.sink.now c.print_reply-written.new.sink c.args.disk.now c.run_line-ran.new.disk line c.in-Ok-ran.answer.1 refl c.calls-mark.ensures c.failures-failures.ensures
    c.next_moment-course.ensures grown refl c.in-Ok-ran.ensures part c.print_reply-written.ensures.cause.later rose (g.met.D.Disk.seen_left c.run_line-ran.new.disk)

pub returns : goal.returns
returns g c =
    let line : ReportLine = record { event = c.in-Ok-ran.answer.0; reply = Some c.in-Ok-ran.answer.1; mark = c.calls-mark.result; failures = c.failures-failures.result } in
    let grown : c.push.new.self.items ≡ c.args.course.now.lines.items ++ line ∷ [] = search rules in
    let appends : g.K.Sink.tells → Appends (g.K.Sink.taken c.args.sink.now) (g.K.Sink.taken c.print_reply-written.new.sink) (reply_text c.in-Ok-ran.answer.1) = search rules in
    let quiet : g.K.Sink.count c.print_reply-written.new.sink ≡ g.K.Sink.count c.args.sink.now = search rules in
    written g.K.Sink g.D.Disk g.L.Links _ _ _ _ c.run_line-ran.new.links c.requires c.args.sink.now c.print_reply-written.new.sink c.args.disk.now c.run_line-ran.new.disk line c.in-Ok-ran.answer.1 refl c.calls-mark.ensures c.failures-failures.ensures
    c.next_moment-course.ensures grown refl c.in-Ok-ran.ensures appends quiet
