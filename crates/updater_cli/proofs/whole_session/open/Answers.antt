use Rattle.std.proofs.Common.{rules, ◌≡◌, ◌∙◌, [], ◌∷◌, ◌++◌, List, true, None, refl, ap}
use Rattle.machine.specs.declared.event.Event.TheVariants.{Boot}
use Rattle.machine.specs.declared.report.ReportLine.{ReportLine}
use Rattle.updater.specs.declared.fault.RecoverFault.TheVariants as faults
use Rattle.updater_cli.proofs.Opened.{no_room, refused_as, kept, changed}
use Rattle.updater_cli.proofs.whole_session.open.Goals as goal

pub returns-in-Err : goal.returns-in-Err
returns-in-Err g c = no_room g.D.Disk g.L.Links c.args.boot c.args.now c.args.links.now c.args.disk.now

pub returns-in-Err-NotAStore : goal.returns-in-Err-NotAStore
returns-in-Err-NotAStore g c = refused_as g.D.Disk g.L.Links c.args.boot c.args.now c.args.links.now c.args.disk.now c.recover.new.disk c.in-Err-NotAStore.field-0 faults.NotAStore c.in-Err-NotAStore.field-0-is c.in-Err-NotAStore.ensures

pub returns-in-Err-Memory : goal.returns-in-Err-Memory
returns-in-Err-Memory g c = refused_as g.D.Disk g.L.Links c.args.boot c.args.now c.args.links.now c.args.disk.now c.recover.new.disk c.in-Err-Memory.field-0 faults.Memory c.in-Err-Memory.field-0-is c.in-Err-Memory.ensures

pub returns-in-Err-DiskFault : goal.returns-in-Err-DiskFault
returns-in-Err-DiskFault g c = refused_as g.D.Disk g.L.Links c.args.boot c.args.now c.args.links.now c.args.disk.now c.recover.new.disk c.in-Err-DiskFault.field-0 faults.DiskFault c.in-Err-DiskFault.field-0-is c.in-Err-DiskFault.ensures

pub returns-then-not-booted : goal.returns-then-not-booted
returns-then-not-booted g c =
    kept g.D.Disk g.L.Links c.args.boot c.args.now c.args.links.now c.args.disk.now c.recover.new.disk c.in-Ok-recover.opened c.in-Ok-recover.ensures _ refl refl refl c.if-not-booted.true
    (c.reserve.ensures.items ∙ c.new-lines.ensures.items)

pub returns : goal.returns
returns g c =
    let line : ReportLine = record { event = Boot c.args.boot; reply = None; mark = c.calls-mark.result; failures = c.failures-failures.result } in
    let grown : c.push.new.self.items ≡ c.reserve.new.self.items ++ line ∷ [] = search rules in
    let one : c.push.new.self.items ≡ line ∷ [] = grown ∙ ap (λ (ls : List ReportLine). ls ++ line ∷ []) (c.reserve.ensures.items ∙ c.new-lines.ensures.items) in
    let yes : c.in-Ok-recover.opened.1 ≡ true = search rules in
    changed g.D.Disk g.L.Links c.args.boot c.args.now c.args.links.now c.args.disk.now c.recover.new.disk c.in-Ok-recover.opened c.in-Ok-recover.ensures _ refl refl refl c.requires.boot yes line one refl refl c.failures-failures.ensures c.calls-mark.ensures
