use Rattle.table_log.proofs.LoadedTables.{loads_fields}
use Rattle.table_log.proofs.FoundTables.{nowhere_loaded, settled_base}
use Rattle.table_log.proofs.replay.settle.Goals as goal

pub returns-in-Err-clause-leads : goal.returns-in-Err-clause-leads
returns-in-Err-clause-leads c = settled_base c.args.text.now c.args.changes.now c.in-Err.fault c.in-Err.ensures

pub returns-in-Ok-false-clause-leads : goal.returns-in-Ok-false-clause-leads
returns-in-Ok-false-clause-leads c =
    nowhere_loaded c.tables_are_spelled_once.ensures c.args.text.now c.args.changes.now c.in-Ok.state c.in-Ok.ensures (rw c.in-Ok-false.field-0-test at c.in-Ok-false.ensures)

pub returns-in-Ok-true-clause-fields : goal.returns-in-Ok-true-clause-fields
returns-in-Ok-true-clause-fields c =
    loads_fields c.fields_stay_encodable.ensures.stay c.in-Ok.state c.replay.new.state c.args.changes.now (c.fields_stay_encodable.ensures.had c.in-Ok.state c.in-Ok.ensures.has)
    (rw c.in-Ok-true.field-0-test at c.in-Ok-true.ensures)
