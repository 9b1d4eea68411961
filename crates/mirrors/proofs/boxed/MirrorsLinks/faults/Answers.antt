use Rattle.std.proofs.Common.{◌∙◌, ap, length}
use Rattle.links.specs.Link.{LinkState}
use Rattle.mirrors.specs.Mirrors.{marks_of}
use Rattle.mirrors.proofs.ByPlace.{box_link}
use Rattle.mirrors.proofs.boxed.MirrorsLinks.faults.Goals as goal

pub returns : goal.returns
returns g c =
    c.faults_of_box.ensures
    ∙ ap (λ (s : LinkState). s.count) (box_link (λ b. (goal.Link-dyn g (b.vtable, b.value)).state b.value)
    (λ x. record ((goal.Link-dyn g (x.link.vtable, x.link.value)).state x.link.value) { count = x.count })
    (marks_of (λ x. x.place) (length c.args.self.now.links.items) c.args.self.now.retired.noted)
    c.args.self.now.links.items c.args.place c.index.result.now c.requires c.args.self.now.even c.index.ensures)
