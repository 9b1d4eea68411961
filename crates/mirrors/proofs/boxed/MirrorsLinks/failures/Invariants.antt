use Rattle.std.proofs.Common.{◌≡◌}
use Rattle.mirrors.proofs.ByPlace.{box_at}
use Rattle.mirrors.proofs.Sums.{counted_from}
use Rattle.mirrors.proofs.boxed.MirrorsLinks.failures.Given as goal

abbrev pub invariant-loop-link : goal.invariant-loop-link
invariant-loop-link g l =
    l.sum ≡ counted_from
    (box_at (λ b. (goal.Link-dyn g (b.vtable, b.value)).state b.value) l.link-items)
    l.self.gone l.link-index
