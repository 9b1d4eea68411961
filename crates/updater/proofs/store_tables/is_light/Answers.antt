use Rattle.machine.proofs.Lightness.{not_heavy}
use Rattle.updater.proofs.store_tables.is_light.Goals as goal

pub returns-in-Some : goal.returns-in-Some
returns-in-Some c = λ exact is. ((λ no. absurd (cc)), (λ light. absurd (not_heavy c.args.room exact light (c.in-Some.ensures exact is).0)))
