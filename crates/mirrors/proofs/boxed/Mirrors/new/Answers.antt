use Rattle.std.proofs.Common.{◌∙◌}
use Rattle.mirrors.proofs.ByPlace.{are_new, even_new, gone_new}
use Rattle.mirrors.proofs.boxed.Mirrors.new.Goals as goal

pub returns : goal.returns
returns g c = are_new (λ b. (goal.Link-dyn g (b.vtable, b.value)).state b.value)
    (λ x. record ((goal.Link-dyn g (x.link.vtable, x.link.value)).state x.link.value) { count = x.count })
    (λ x. x.place) c.args.links.items c.new-2.result.noted c.from_vec.result c.new-2.ensures
    (c.from_vec.ensures ∙ c.new.ensures.items)

pub invariant_of-result : goal.invariant_of-result
invariant_of-result g c = record {
  some = c.requires.some;
  within = c.requires.within;
  even = even_new (λ b. (goal.Link-dyn g (b.vtable, b.value)).state b.value)
      (λ x. record ((goal.Link-dyn g (x.link.vtable, x.link.value)).state x.link.value) { count = x.count })
      (λ x. x.place) c.args.links.items c.new-2.result.noted c.new-2.ensures;
  summed = gone_new (λ b. (goal.Link-dyn g (b.vtable, b.value)).state b.value)
      (λ x. record ((goal.Link-dyn g (x.link.vtable, x.link.value)).state x.link.value) { count = x.count })
      (λ x. x.place) (λ x. x.count) c.args.links.items c.new-2.result.noted c.new-2.ensures;
}
