use Rattle.std.proofs.Common.{◌∙◌, ℕ, List, ap, not}
use Rattle.manifests.specs.Applications.{is_below_pre}
use Rattle.install_plan.proofs.local_plans.is_outside.Goals as goal

pub returns : goal.returns
returns c = c.lies_outside.ensures ∙ ap (λ (n : List ℕ). not (is_below_pre n)) c.name.ensures
