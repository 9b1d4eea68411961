use Rattle.std.proofs.Common.{◌∷◌, []}
use Rattle.folders.specs.declared.answer.FolderAnswer.TheVariants.{Listed}
use Rattle.folders.proofs.SortedNames.{names_in_order}
use Rattle.publisher.proofs.FaultCounts.{reading_counted, reading_is}
use Rattle.publisher.proofs.TwoReadings.{answers_more}
use Rattle.publisher.proofs.names.list_names.Goals as goal

pub returns-in-Err-clause-reading : goal.returns-in-Err-clause-reading
returns-in-Err-clause-reading g c = reading_is c.in-Err.fault c.fault_of_reading.result c.fault_of_reading.ensures

pub returns-in-Err-clause-counted : goal.returns-in-Err-clause-counted
returns-in-Err-clause-counted g c =
    reading_counted (g.F.Folder.count c.args.folder.now) (g.F.Folder.count c.list.new.self) c.in-Err.fault c.fault_of_reading.result c.fault_of_reading.ensures c.in-Err.ensures.cause

pub returns-in-Ok-clause-names : goal.returns-in-Ok-clause-names
returns-in-Ok-clause-names g c = λ told.
    names_in_order (g.F.Folder.held c.args.folder.now) c.in-Ok.names c.in_order.result.items (g.met.F.Folder.names_differ c.args.folder.now told) (c.in-Ok.ensures.names told) c.in_order.ensures.all c.in_order.ensures.ascending

pub returns-in-Ok-clause-noted : goal.returns-in-Ok-clause-noted
returns-in-Ok-clause-noted g c = λ records.
    answers_more (g.F.Folder.answers c.args.folder.now) (g.F.Folder.answers c.list.new.self) (Listed c.in-Ok.names ∷ []) (c.in-Ok.ensures.noted records)
