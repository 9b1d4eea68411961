use Rattle.std.proofs.Common.{ap, sym, ◌∙◌}
use Rattle.publisher.specs.Readings.{given_bytes}
use Rattle.publisher.proofs.FaultCounts.{reading_counted, reading_is}
use Rattle.publisher.proofs.TwoReadings.{read_given}
use Rattle.publisher.proofs.entries.read_file.Goals as goal

pub returns-in-Err-clause-reading : goal.returns-in-Err-clause-reading
returns-in-Err-clause-reading g c = reading_is c.in-Err.fault c.fault_of_reading.result c.fault_of_reading.ensures

pub returns-in-Err-clause-counted : goal.returns-in-Err-clause-counted
returns-in-Err-clause-counted g c =
    reading_counted (g.F.Folder.count c.args.folder.now) (g.F.Folder.count c.get.new.self) c.in-Err.fault c.fault_of_reading.result c.fault_of_reading.ensures c.in-Err.ensures.cause

pub returns-in-Ok-Some-clause-noted : goal.returns-in-Ok-Some-clause-noted
returns-in-Ok-Some-clause-noted g c = λ records.
    read_given c.args.name.now c.in-Ok-Some.bytes c.in-Ok-Some.field-0 (g.F.Folder.answers c.args.folder.now) (g.F.Folder.answers c.get.new.self) (c.in-Ok-Some.ensures.noted records) (sym (ap given_bytes c.in-Ok-Some.field-0-is))

pub returns-in-Ok-None-clause-noted : goal.returns-in-Ok-None-clause-noted
returns-in-Ok-None-clause-noted g c = λ records.
    read_given c.args.name.now c.from_vec.result c.in-Ok-None.field-0 (g.F.Folder.answers c.args.folder.now) (g.F.Folder.answers c.get.new.self) (c.in-Ok-None.ensures.noted records)
    (c.from_vec.ensures ∙ c.new.ensures.items ∙ sym (ap given_bytes c.in-Ok-None.field-0-is))
