use Rattle.links.specs.Asked.{NotesPiece}
use Rattle.links.specs.Link.{Takes}
use Rattle.mirrors.proofs.ByPlace.{asked_box, only_asked}
use Rattle.mirrors.proofs.boxed.MirrorsLinks.piece.Goals as goal

pub returns-clause-takes : goal.returns-clause-takes
returns-clause-takes g c =
    asked_box (λ b. (goal.Link-dyn g (b.vtable, b.value)).state b.value)
    (λ x. record ((goal.Link-dyn g (x.link.vtable, x.link.value)).state x.link.value) { count = x.count })
    (λ x. x.place) c.args.self.now.links.items c.args.self.now.retired.noted c.args.place c.index_mut.result.now
    c.piece_of_box.new.link c.requires.place c.args.self.now.even c.index_mut.ensures.value
    (λ old new. Takes old new c.args.buf.now c.piece_of_box.new.buf c.piece_of_box.result) c.piece_of_box.ensures.takes

pub returns-clause-noted : goal.returns-clause-noted
returns-clause-noted g c =
    asked_box (λ b. (goal.Link-dyn g (b.vtable, b.value)).state b.value)
    (λ x. record ((goal.Link-dyn g (x.link.vtable, x.link.value)).state x.link.value) { count = x.count })
    (λ x. x.place) c.args.self.now.links.items c.args.self.now.retired.noted c.args.place c.index_mut.result.now
    c.piece_of_box.new.link c.requires.place c.args.self.now.even c.index_mut.ensures.value
    (λ old new. NotesPiece old new c.piece_of_box.new.buf c.piece_of_box.result) c.piece_of_box.ensures.noted

pub returns-clause-only : goal.returns-clause-only
returns-clause-only g c =
    only_asked (λ b. (goal.Link-dyn g (b.vtable, b.value)).state b.value)
    (λ x. record ((goal.Link-dyn g (x.link.vtable, x.link.value)).state x.link.value) { count = x.count })
    (λ x. x.place) c.args.self.now.links.items c.args.self.now.retired.noted c.args.place c.index_mut.result.now
    c.piece_of_box.new.link c.requires.place c.args.self.now.even c.index_mut.ensures.value c.args.self.now.asked
