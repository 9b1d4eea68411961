use Rattle.std.proofs.Common.{ℕ, length, subst, zero-add}
use Rattle.draft_basket.proofs.fill.Goals as goal

pub returns-clause-turned : goal.returns-clause-turned
returns-clause-turned g c =
    subst (λ (n : ℕ). g.B.Basket.turns_to n c.args.basket.now c.take.new.self) (zero-add (length c.args.bytes.now))
    (g.met.B.Basket.turns_on _ _ _ _ _ c.restart.ensures.turned c.take.ensures.turned)
