use Rattle.std.proofs.Common.{◌<◌, length, arith}
use Rattle.std.proofs.lemmas.Grind.{common_steps}
use Rattle.connections.proofs.AcceptedOf.{some_to_come}
use Rattle.connections.proofs.mem_wire.MemWireWire.connect.Goals as goal

pub returns-in-Err-clause-unanswered : goal.returns-in-Err-clause-unanswered
returns-in-Err-clause-unanswered c = λ none.
    let w = c.args.self.now in
    let less : length w.sent < length w.answers = grind (arith, common_steps) in
    absurd (some_to_come (length w.sent) w.answers less none)
