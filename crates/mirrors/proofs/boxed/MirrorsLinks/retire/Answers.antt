use Rattle.std.proofs.Common.{◌∙◌, ap, length, refl, sym, ℕ, arith}
use Rattle.outside.specs.Streams.{total}
use Rattle.links.specs.Links.{count_there}
use Rattle.links.proofs.Numbers.{failures_stay}
use Rattle.mirrors.specs.Mirrors.{gone_in, marks_of, there_of}
use Rattle.mirrors.proofs.ByPlace.{even_then, marks_then, retires_box, same_count}
use Rattle.mirrors.proofs.Sums.{gone_more}
use Rattle.mirrors.proofs.boxed.MirrorsLinks.retire.Goals as goal

pub returns-clause-retires : goal.returns-clause-retires
returns-clause-retires g c =
    rw c.note.ensures
    (retires_box (λ b. (goal.Link-dyn g (b.vtable, b.value)).state b.value)
    (λ x. record ((goal.Link-dyn g (x.link.vtable, x.link.value)).state x.link.value) { count = x.count })
    (λ x. x.place) c.args.self.now.links.items c.remove-link.new.self.items c.args.self.now.retired.noted c.args.place
    c.remove-link.result (record { place = c.args.place; count = c.faults_of_box-count.result; link = c.remove-link.result })
    c.requires.place c.args.self.now.even c.remove-link.ensures.items c.remove-link.ensures.value
    (same_count ((goal.Link-dyn g (c.remove-link.result.vtable, c.remove-link.result.value)).state c.remove-link.result.value)
    c.faults_of_box-count.result c.faults_of_box-count.ensures) refl c.args.self.now.asked)

pub returns-clause-failures : goal.returns-clause-failures
returns-clause-failures g c = failures_stay c.args.place _ _ (returns-clause-retires g c)

pub invariant_of-self : goal.invariant_of-self
invariant_of-self g c = record {
  some = omega (arith, c.requires.others, c.args.self.now.even, c.remove-link.ensures.len, c.args.self.now.links.ok);
  within = omega (arith, c.args.self.now.within, c.remove-link.ensures.len);
  even =
      ap (λ gs. count_there (there_of (marks_of (λ x. x.place) (length c.remove-link.new.self.items) gs))) c.note.ensures
      ∙ even_then (λ b. (goal.Link-dyn g (b.vtable, b.value)).state b.value)
      (λ x. record ((goal.Link-dyn g (x.link.vtable, x.link.value)).state x.link.value) { count = x.count })
      (λ x. x.place) c.args.self.now.links.items c.remove-link.new.self.items c.args.self.now.retired.noted c.args.place
      c.remove-link.result (record { place = c.args.place; count = c.faults_of_box-count.result; link = c.remove-link.result })
      c.requires.place c.args.self.now.even c.remove-link.ensures.items c.remove-link.ensures.value
      (same_count ((goal.Link-dyn g (c.remove-link.result.vtable, c.remove-link.result.value)).state c.remove-link.result.value)
      c.faults_of_box-count.result c.faults_of_box-count.ensures) refl;
  summed =
      ap (λ gs. gone_in (λ x. x.count) (marks_of (λ x. x.place) (length c.remove-link.new.self.items) gs)) c.note.ensures
      ∙ ap (gone_in (λ x. x.count)) (marks_then (λ b. (goal.Link-dyn g (b.vtable, b.value)).state b.value)
      (λ x. record ((goal.Link-dyn g (x.link.vtable, x.link.value)).state x.link.value) { count = x.count })
      (λ x. x.place) c.args.self.now.links.items c.remove-link.new.self.items c.args.self.now.retired.noted c.args.place
      c.remove-link.result (record { place = c.args.place; count = c.faults_of_box-count.result; link = c.remove-link.result })
      c.requires.place c.args.self.now.even c.remove-link.ensures.items c.remove-link.ensures.value
      (same_count ((goal.Link-dyn g (c.remove-link.result.vtable, c.remove-link.result.value)).state c.remove-link.result.value)
      c.faults_of_box-count.result c.faults_of_box-count.ensures) refl)
      ∙ gone_more (λ x. x.count) (marks_of (λ x. x.place) (length c.args.self.now.links.items) c.args.self.now.retired.noted)
      c.args.place (record { place = c.args.place; count = c.faults_of_box-count.result; link = c.remove-link.result })
      c.requires.place
      ∙ ap (λ (n : ℕ). total n c.faults_of_box-count.result) c.args.self.now.summed
      ∙ sym c.saturating_add-self.ensures;
}
