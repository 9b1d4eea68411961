use Rattle.std.proofs.Common.{List, ℕ, take, sym, subst, refl, arith, length-take}
use Rattle.plain_host.specs.Prepared.{AnswersFront, served_by}
use Rattle.plain_host.proofs.LastAnswer.{asks_file, serves_last, serves_part, silent_at_end, serves_some}
use Rattle.plain_host.proofs.connection.serve_in_room.Goals as goal

pub returns-in-Err-clause-file : goal.returns-in-Err-clause-file
returns-in-Err-clause-file g c = λ t _.
    asks_file (g.G.Door.accepted c.args.door.now) (g.G.Door.accepted c.receive_front.new.door) (take c.in-Ok.n c.receive_front.new.front)
    (omega (arith, length-take c.in-Ok.n c.receive_front.new.front, c.in-Ok.ensures.few)) (c.in-Ok.ensures.front t) c.in-Err.ensures.asks

pub returns-in-Err-clause-memory : goal.returns-in-Err-clause-memory
returns-in-Err-clause-memory g c = λ t _.
    asks_file (g.G.Door.accepted c.args.door.now) (g.G.Door.accepted c.receive_front.new.door) (take c.in-Ok.n c.receive_front.new.front)
    (omega (arith, length-take c.in-Ok.n c.receive_front.new.front, c.in-Ok.ensures.few)) (c.in-Ok.ensures.front t) c.in-Err.ensures.asks

pub returns-in_default-send_answer-clause-part : goal.returns-in_default-send_answer-clause-part
returns-in_default-send_answer-clause-part g c = λ t u _.
    let told = subst (λ (f : List ℕ). AnswersFront (g.F.Folder.held c.args.folder.now) (take c.in-Ok.n c.receive_front.new.front) c.in-Ok-prepare_answer.prepared f) (sym c.as_slice.ensures) (c.in-Ok-prepare_answer.ensures.told u) in
    serves_part (g.F.Folder.held c.args.folder.now) (g.G.Door.accepted c.args.door.now) (g.G.Door.accepted c.receive_front.new.door) (g.G.Door.accepted c.send_answer.new.door)
    (take c.in-Ok.n c.receive_front.new.front) c.as_slice.result.now c.in-Ok-prepare_answer.prepared (served_by c.in-Ok-prepare_answer.prepared) refl
    (omega (arith, length-take c.in-Ok.n c.receive_front.new.front, c.in-Ok.ensures.few)) (c.in-Ok.ensures.front t) told (c.in_default-send_answer.ensures.part t)

pub returns-in_default-send_answer-clause-part_of_some : goal.returns-in_default-send_answer-clause-part_of_some
returns-in_default-send_answer-clause-part_of_some g c = λ t _.
    let some = c.in-Ok-prepare_answer.ensures.some in
    let told = subst (λ (f : List ℕ). AnswersFront some.0 (take c.in-Ok.n c.receive_front.new.front) c.in-Ok-prepare_answer.prepared f) (sym c.as_slice.ensures) some.1 in (
      some.0,
      serves_part some.0 (g.G.Door.accepted c.args.door.now) (g.G.Door.accepted c.receive_front.new.door) (g.G.Door.accepted c.send_answer.new.door)
          (take c.in-Ok.n c.receive_front.new.front) c.as_slice.result.now c.in-Ok-prepare_answer.prepared (served_by c.in-Ok-prepare_answer.prepared) refl
          (omega (arith, length-take c.in-Ok.n c.receive_front.new.front, c.in-Ok.ensures.few)) (c.in-Ok.ensures.front t) told (c.in_default-send_answer.ensures.part t),
    )

pub returns-clause-served : goal.returns-clause-served
returns-clause-served g c = λ t u.
    let told = subst (λ (f : List ℕ). AnswersFront (g.F.Folder.held c.args.folder.now) (take c.in-Ok.n c.receive_front.new.front) c.in-Ok-prepare_answer.prepared f) (sym c.as_slice.ensures) (c.in-Ok-prepare_answer.ensures.told u) in
    serves_last (g.F.Folder.held c.args.folder.now) (g.G.Door.accepted c.args.door.now) (g.G.Door.accepted c.receive_front.new.door) (g.G.Door.accepted c.send_answer.new.door)
    (take c.in-Ok.n c.receive_front.new.front) c.as_slice.result.now c.in-Ok-prepare_answer.prepared c.served_of.result c.served_of.ensures
    (omega (arith, length-take c.in-Ok.n c.receive_front.new.front, c.in-Ok.ensures.few)) (c.in-Ok.ensures.front t) told (c.in-Ok-send_answer.ensures.done t)

pub returns-clause-silent : goal.returns-clause-silent
returns-clause-silent g c = λ t.
    let some = c.in-Ok-prepare_answer.ensures.some in
    let told = subst (λ (f : List ℕ). AnswersFront some.0 (take c.in-Ok.n c.receive_front.new.front) c.in-Ok-prepare_answer.prepared f) (sym c.as_slice.ensures) some.1 in
    silent_at_end some.0 (g.G.Door.accepted c.args.door.now) (g.G.Door.accepted c.receive_front.new.door) (g.G.Door.accepted c.send_answer.new.door)
    (take c.in-Ok.n c.receive_front.new.front) c.as_slice.result.now c.in-Ok-prepare_answer.prepared c.served_of.result c.served_of.ensures
    (omega (arith, length-take c.in-Ok.n c.receive_front.new.front, c.in-Ok.ensures.few)) (c.in-Ok.ensures.front t) told

pub returns-clause-of_some : goal.returns-clause-of_some
returns-clause-of_some g c = λ t.
    let some = c.in-Ok-prepare_answer.ensures.some in
    let told = subst (λ (f : List ℕ). AnswersFront some.0 (take c.in-Ok.n c.receive_front.new.front) c.in-Ok-prepare_answer.prepared f) (sym c.as_slice.ensures) some.1 in (
      some.0,
      serves_last some.0 (g.G.Door.accepted c.args.door.now) (g.G.Door.accepted c.receive_front.new.door) (g.G.Door.accepted c.send_answer.new.door)
          (take c.in-Ok.n c.receive_front.new.front) c.as_slice.result.now c.in-Ok-prepare_answer.prepared c.served_of.result c.served_of.ensures
          (omega (arith, length-take c.in-Ok.n c.receive_front.new.front, c.in-Ok.ensures.few)) (c.in-Ok.ensures.front t) told (c.in-Ok-send_answer.ensures.done t),
    )

pub returns-clause-to_some : goal.returns-clause-to_some
returns-clause-to_some g c = λ u.
    serves_some (g.F.Folder.held c.args.folder.now) (take c.in-Ok.n c.receive_front.new.front) c.prepare_answer.new.file c.in-Ok-prepare_answer.prepared c.served_of.result c.served_of.ensures
    (c.in-Ok-prepare_answer.ensures.told u)
