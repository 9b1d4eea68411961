use Rattle.std.proofs.Common.{rules, arith, ◌∙◌, Some, Err, refl, ap, subst}
use Rattle.std.specs.Prelude.{List, ℕ}
use Rattle.outside.specs.Streams.{Appends, AppendsPart}
use Rattle.demo.specs.declared.fault.DemoFault.TheVariants as faults
use Rattle.updater_cli.specs.declared.demo_end.DemoEnd.TheVariants as end
use Rattle.updater_cli.proofs.DemoEnds.{asks_by, by_disk, by_memory, cut_off, ended_early, not_noted, noted, written}
use Rattle.updater_cli.proofs.demo_end.demonstrate.Goals as goal

pub returns-in-Err-DiskFault-clause-runs : goal.returns-in-Err-DiskFault-clause-runs
returns-in-Err-DiskFault-clause-runs g c = by_disk g.K.Sink g.D.Disk c.args.seed c.args.sink.now c.args.sink.now c.args.disk.now c.demo.new.disk refl

pub returns-in-Err-DiskFault-clause-asks : goal.returns-in-Err-DiskFault-clause-asks
returns-in-Err-DiskFault-clause-asks g c =
    asks_by g.D.Disk c.args.disk.now c.demo.new.disk c.demo.result end.DiskFault c.demo.ensures.touches
    (λ is. c.in-Err-DiskFault.is ∙ ap Err c.in-Err-DiskFault.field-0-is) (λ is. refl)

pub returns-in-Err-DiskFault-clause-notes : goal.returns-in-Err-DiskFault-clause-notes
returns-in-Err-DiskFault-clause-notes g c = not_noted g.D.Disk c.demo.new.disk c.args.note.now 4 (λ same. omega (arith, same))

pub returns-in-Err-clause-runs : goal.returns-in-Err-clause-runs
returns-in-Err-clause-runs g c = by_memory g.K.Sink g.D.Disk c.args.seed c.args.sink.now c.args.sink.now c.args.disk.now c.demo.new.disk refl

pub returns-in-Err-clause-asks : goal.returns-in-Err-clause-asks
returns-in-Err-clause-asks g c =
    asks_by g.D.Disk c.args.disk.now c.demo.new.disk c.demo.result end.Early c.demo.ensures.touches (λ is. cc (is)) (λ is. search rules)

pub returns-in-Err-clause-notes : goal.returns-in-Err-clause-notes
returns-in-Err-clause-notes g c =
    ended_early g.D.Disk c.args.disk.now c.demo.new.disk c.demo.result c.args.note.now c.in-Err.fault c.demo.ensures.touches c.in-Err.is (search rules)

pub returns-in-Err-line-clause-runs : goal.returns-in-Err-line-clause-runs
returns-in-Err-line-clause-runs g c = by_memory g.K.Sink g.D.Disk c.args.seed c.args.sink.now c.args.sink.now c.args.disk.now c.demo.new.disk refl

pub returns-in-Err-line-clause-asks : goal.returns-in-Err-line-clause-asks
returns-in-Err-line-clause-asks g c =
    asks_by g.D.Disk c.args.disk.now c.demo.new.disk c.demo.result end.Early c.demo.ensures.touches (λ is. cc (is)) (λ is. cc (is, c.in-Ok.is))

pub returns-in-Err-line-clause-notes : goal.returns-in-Err-line-clause-notes
returns-in-Err-line-clause-notes g c =
    noted g.D.Disk c.demo.new.disk c.args.note.now (Some faults.Memory) faults.Memory refl (λ same. cc (same)) (λ tells same. cc (same))

pub returns-in-Ok-write_all-clause-runs : goal.returns-in-Ok-write_all-clause-runs
returns-in-Ok-write_all-clause-runs g c =
    written g.K.Sink g.D.Disk c.args.seed c.args.sink.now c.write_all.new.sink c.args.disk.now c.demo.new.disk c.in-Ok.summary c.in-Ok.ensures.run
    (λ tells. subst (λ (bytes : List ℕ). Appends (g.K.Sink.taken c.args.sink.now) (g.K.Sink.taken c.write_all.new.sink) bytes) (c.as_bytes.ensures.value ∙ c.in-Ok-line.ensures)
    (c.in-Ok-write_all.ensures.bytes tells))

pub returns-in-Ok-write_all-clause-asks : goal.returns-in-Ok-write_all-clause-asks
returns-in-Ok-write_all-clause-asks g c =
    asks_by g.D.Disk c.args.disk.now c.demo.new.disk c.demo.result end.Done c.demo.ensures.touches (λ is. cc (is)) (λ is. cc (is, c.in-Ok.is))

pub returns-in-Ok-write_all-clause-notes : goal.returns-in-Ok-write_all-clause-notes
returns-in-Ok-write_all-clause-notes g c = not_noted g.D.Disk c.demo.new.disk c.args.note.now 0 (λ same. omega (arith, same))

pub returns-clause-notes : goal.returns-clause-notes
returns-clause-notes g c = not_noted g.D.Disk c.demo.new.disk c.args.note.now 3 (λ same. omega (arith, same))

pub returns-clause-runs : goal.returns-clause-runs
returns-clause-runs g c =
    cut_off g.K.Sink g.D.Disk c.args.seed c.args.sink.now c.write_all.new.sink c.args.disk.now c.demo.new.disk c.in-Ok.summary c.in-Ok.ensures.run
    (λ tells. subst (λ (bytes : List ℕ). AppendsPart (g.K.Sink.taken c.args.sink.now) (g.K.Sink.taken c.write_all.new.sink) bytes) (c.as_bytes.ensures.value ∙ c.in-Ok-line.ensures)
    (c.in-Err-write_all.ensures.part tells))

pub returns-clause-asks : goal.returns-clause-asks
returns-clause-asks g c =
    asks_by g.D.Disk c.args.disk.now c.demo.new.disk c.demo.result end.SinkFault c.demo.ensures.touches (λ is. cc (is)) (λ is. cc (is, c.in-Ok.is))
