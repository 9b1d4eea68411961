use Rattle.std.proofs.Common.{◌<◌, [], length, arith}
use Rattle.std.specs.Prelude.{slice_index_or}
use Rattle.std.proofs.lemmas.Grind.{common_steps}
use Rattle.connections.proofs.AcceptedOf.{accepted_ends, next_request, some_to_come}
use Rattle.connections.proofs.mem_door.MemDoorDoor.accept.Goals as goal

pub returns-in-Ok-clause-made : goal.returns-in-Ok-clause-made
returns-in-Ok-clause-made c =
    let d = c.args.self.now in
    let less : length d.places.items < length d.requests = grind (arith, common_steps) in
    record {
      request = slice_index_or d.requests (length d.places.items) [];
      made = accepted_ends c.open.new.places.items d.places.items d.requests c.open.new.sent d.sent 0 [] c.in-Ok.ensures.place c.in-Ok.ensures.sent d.paired less;
    }

pub returns-in-Ok-clause-next : goal.returns-in-Ok-clause-next
returns-in-Ok-clause-next c =
    let d = c.args.self.now in
    let less : length d.places.items < length d.requests = grind (arith, common_steps) in
    record {
      request = slice_index_or d.requests (length d.places.items) [];
      requests = next_request d.places.items c.open.new.places.items d.requests c.in-Ok.ensures.place less;
      made = accepted_ends c.open.new.places.items d.places.items d.requests c.open.new.sent d.sent 0 [] c.in-Ok.ensures.place c.in-Ok.ensures.sent d.paired less;
    }

pub returns-in-Ok-clause-end : goal.returns-in-Ok-clause-end
returns-in-Ok-clause-end c = λ none.
    let d = c.args.self.now in
    let less : length d.places.items < length d.requests = grind (arith, common_steps) in
    absurd (some_to_come (length d.places.items) d.requests less none)

pub returns-in-Err-clause-unrequested : goal.returns-in-Err-clause-unrequested
returns-in-Err-clause-unrequested c = λ none.
    let d = c.args.self.now in
    let less : length d.places.items < length d.requests = grind (arith, common_steps) in
    absurd (some_to_come (length d.places.items) d.requests less none)
