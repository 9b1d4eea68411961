use Rattle.std.proofs.Common.{◌∙◌, ℕ, List, sym, ap}
use Rattle.std.specs.Prelude.{Option}
use Rattle.machine.specs.Views.{stands_by}
use Rattle.store_state.proofs.brought_contents.stands_by.Goals as goal

pub returns-in-Some : goal.returns-in-Some
returns-in-Some c = c.is_one_of.ensures ∙ sym (ap (λ (group : Option (List ℕ)). stands_by c.args.groups.now group) c.in-Some.is)
