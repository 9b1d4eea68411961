use Rattle.std.proofs.Common.{arith}
use Rattle.table_codec.proofs.Judged.{fault_judged, made_found, made_judged, made_within, only_judged}
use Rattle.table_codec.proofs.decoder.decode_state.Goals as goal

-- what was read is judged

pub returns-in-Ok-clause-found : goal.returns-in-Ok-clause-found
returns-in-Ok-clause-found c =
    made_found c.args.bytes.now c.in-Ok.parts c.in-Ok.ensures.exact c.made_of.result
    c.made_of.ensures.same c.made_of.ensures.tables c.in-Ok.ensures.found.0 c.in-Ok.ensures.found.1

pub returns-in-Ok-clause-only : goal.returns-in-Ok-clause-only
returns-in-Ok-clause-only c =
    only_judged c.args.bytes.now c.made_of.result
    (made_judged c.args.bytes.now c.in-Ok.parts c.in-Ok.ensures.exact _ c.made_of.result
    (omega arith) c.made_of.ensures.same c.made_of.ensures.tables c.made_of.ensures.refused)

pub returns-in-Ok-clause-exact : goal.returns-in-Ok-clause-exact
returns-in-Ok-clause-exact c =
    made_judged c.args.bytes.now c.in-Ok.parts c.in-Ok.ensures.exact _ c.made_of.result (omega arith)
    c.made_of.ensures.same c.made_of.ensures.tables c.made_of.ensures.refused

pub returns-in-Ok-clause-fault : goal.returns-in-Ok-clause-fault
returns-in-Ok-clause-fault c =
    made_within c.args.bytes.now c.in-Ok.parts c.in-Ok.ensures.exact _ c.made_of.result (omega arith)
    c.made_of.ensures.refused

-- no encoding

pub returns-in-Err-clause-only : goal.returns-in-Err-clause-only
returns-in-Err-clause-only c =
    only_judged c.args.bytes.now _ (fault_judged c.args.bytes.now c.in-Err.fault
    c.in-Err.ensures.exact)

pub returns-in-Err-clause-exact : goal.returns-in-Err-clause-exact
returns-in-Err-clause-exact c =
    fault_judged c.args.bytes.now c.in-Err.fault c.in-Err.ensures.exact
