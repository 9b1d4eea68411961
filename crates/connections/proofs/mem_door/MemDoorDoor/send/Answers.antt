use Rattle.std.proofs.Common.{◌<◌, List, ℕ, length, ◌∙◌, sym, subst, arith}
use Rattle.std.proofs.Math.Seq.{take-length}
use Rattle.std.proofs.lemmas.Grind.{common_steps}
use Rattle.connections.specs.Door.{SendsOnLast}
use Rattle.connections.specs.Places.{accepted_of}
use Rattle.connections.proofs.AcceptedOf.{sends, some_accepted}
use Rattle.connections.proofs.Ends.{never_empty}
use Rattle.connections.proofs.mem_door.MemDoorDoor.send.Goals as goal

pub returns-in-Ok-clause-bytes : goal.returns-in-Ok-clause-bytes
returns-in-Ok-clause-bytes c =
    let d = c.args.self.now in
    subst (λ (b : List ℕ). SendsOnLast (accepted_of d.places.items d.requests d.sent) (accepted_of d.places.items d.requests c.send_last.new.sent) b) (sym (take-length c.args.bytes.now)) (sends d.places.items d.requests d.sent c.send_last.new.sent c.args.bytes.now d.paired d.known c.in-Ok.ensures.done)

pub returns-in-Ok-clause-first : goal.returns-in-Ok-clause-first
returns-in-Ok-clause-first c = λ none.
    let d = c.args.self.now in
    let sent = sends d.places.items d.requests d.sent c.send_last.new.sent c.args.bytes.now d.paired d.known c.in-Ok.ensures.done in
    absurd (never_empty sent.earlier sent.last (sym none ∙ sent.before))

pub returns-in-Err-clause-unconnected : goal.returns-in-Err-clause-unconnected
returns-in-Err-clause-unconnected c = λ none.
    let d = c.args.self.now in
    let some : 0 < length d.places.items = grind (arith, common_steps) in
    absurd (some_accepted d.places.items d.requests d.sent d.paired d.known some none)
