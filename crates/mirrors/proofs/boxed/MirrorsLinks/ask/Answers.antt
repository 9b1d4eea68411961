use Rattle.links.specs.Asked.{NotesAsk}
use Rattle.links.specs.Link.{Asks}
use Rattle.mirrors.proofs.ByPlace.{asked_box, only_asked}
use Rattle.mirrors.proofs.boxed.MirrorsLinks.ask.Goals as goal

pub returns-clause-asks : goal.returns-clause-asks
returns-clause-asks g c =
    asked_box (λ b. (goal.Link-dyn g (b.vtable, b.value)).state b.value)
    (λ x. record ((goal.Link-dyn g (x.link.vtable, x.link.value)).state x.link.value) { count = x.count })
    (λ x. x.place) c.args.self.now.links.items c.args.self.now.retired.noted c.args.place c.index_mut.result.now
    c.ask_box.new.link c.requires.place c.args.self.now.even c.index_mut.ensures.value
    (λ old new. Asks c.args.target.now old new c.ask_box.result) c.ask_box.ensures.asks

pub returns-clause-noted : goal.returns-clause-noted
returns-clause-noted g c =
    asked_box (λ b. (goal.Link-dyn g (b.vtable, b.value)).state b.value)
    (λ x. record ((goal.Link-dyn g (x.link.vtable, x.link.value)).state x.link.value) { count = x.count })
    (λ x. x.place) c.args.self.now.links.items c.args.self.now.retired.noted c.args.place c.index_mut.result.now
    c.ask_box.new.link c.requires.place c.args.self.now.even c.index_mut.ensures.value
    (λ old new. NotesAsk c.args.target.now old new c.ask_box.result) c.ask_box.ensures.noted

pub returns-clause-only : goal.returns-clause-only
returns-clause-only g c =
    only_asked (λ b. (goal.Link-dyn g (b.vtable, b.value)).state b.value)
    (λ x. record ((goal.Link-dyn g (x.link.vtable, x.link.value)).state x.link.value) { count = x.count })
    (λ x. x.place) c.args.self.now.links.items c.args.self.now.retired.noted c.args.place c.index_mut.result.now
    c.ask_box.new.link c.requires.place c.args.self.now.even c.index_mut.ensures.value c.args.self.now.asked
