use Rattle.std.proofs.Common.{◌≡◌, ◌∙◌, ap, length, refl, sym, arith}
use Rattle.links.specs.Links.{counted}
use Rattle.mirrors.specs.Mirrors.{link_in, marks_of}
use Rattle.mirrors.proofs.ByPlace.{box_at, there_length}
use Rattle.mirrors.proofs.Sums.{counted_from, sums_agree}
use Rattle.mirrors.proofs.boxed.MirrorsLinks.failures.Goals as goal

pub returns : goal.returns
returns g c =
    let items = c.args.self.now.links.items in
    let same = c.deref-link-items.ensures.value in
    let all : c.loop-link.link-index ≡ length items =
    omega (arith, c.loop-link-test.false, c.loop-link.auto.link-index-end, ap length same) in
    rw same at c.loop-link.invariant
    ∙ ap (counted_from (box_at (λ b. (goal.Link-dyn g (b.vtable, b.value)).state b.value) items) c.args.self.now.gone) all
    ∙ sums_agree (λ b. (goal.Link-dyn g (b.vtable, b.value)).state b.value)
    (λ x. record ((goal.Link-dyn g (x.link.vtable, x.link.value)).state x.link.value) { count = x.count })
    (λ x. x.count) (λ x. refl)
    (marks_of (λ x. x.place) (length items) c.args.self.now.retired.noted) items c.args.self.now.gone
    c.args.self.now.even c.args.self.now.summed
    ∙ ap (counted (link_in (λ b. (goal.Link-dyn g (b.vtable, b.value)).state b.value)
    (λ x. record ((goal.Link-dyn g (x.link.vtable, x.link.value)).state x.link.value) { count = x.count })
    (marks_of (λ x. x.place) (length items) c.args.self.now.retired.noted) items))
    (sym (there_length (marks_of (λ x. x.place) (length items) c.args.self.now.retired.noted)))
