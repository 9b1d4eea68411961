use Rattle.std.proofs.Common.{◌≡◌, List, [], ℕ, ◌∙◌, sym, subst}
use Rattle.std.specs.Prelude.{IsErr}
use Rattle.connections.specs.Door.{ReceivesOnLast}
use Rattle.connections.specs.Places.{accepted_of, ReceivesAt}
use Rattle.connections.proofs.AcceptedOf.{receives}
use Rattle.connections.proofs.Ends.{never_empty}
use Rattle.connections.proofs.mem_door.MemDoorDoor.receive.Goals as goal

pub returns-clause-bytes : goal.returns-clause-bytes
returns-clause-bytes c =
    let d = c.args.self.now in
    let received = subst (λ (rs : List (List ℕ)). ReceivesAt rs d.places.items c.receive_last.new.places.items c.receive_last.new.buf c.in-Some.n) c.as_slice.ensures c.in-Some.ensures.bytes in
    receives d.requests d.sent d.places.items c.receive_last.new.places.items c.receive_last.new.buf c.in-Some.n d.paired d.known received

pub returns-clause-first : goal.returns-clause-first
returns-clause-first c = λ none.
    let received = returns-clause-bytes c in
    absurd (never_empty received.earlier received.last (sym none ∙ received.before))
