use Rattle.std.proofs.Common.{◌≡◌, ◌∙◌, ℕ, List, sym, subst}
use Rattle.std.specs.Prelude.{IfErr, IfOk, IsSome}
use Rattle.command_text.specs.Lines.{group_in}
use Rattle.command_text.proofs.GroupWords.{group_too_long}
use Rattle.command_text.proofs.names.read_group.Goals as goal

pub returns-in-Some-clause-exact : goal.returns-in-Some-clause-exact
returns-in-Some-clause-exact c =
    subst (λ (text : List ℕ). IfOk c.copy_group.result (λ group. group ≡ group_in text))
    (c.deref.ensures.0 ∙ c.in-Some.ensures) c.copy_group.ensures.exact

pub returns-in-Some-clause-memory : goal.returns-in-Some-clause-memory
returns-in-Some-clause-memory c =
    subst (λ (text : List ℕ). IfErr c.copy_group.result (λ e. IsSome (group_in text)))
    (c.deref.ensures.0 ∙ c.in-Some.ensures) c.copy_group.ensures.memory

pub returns-in-None-clause-exact : goal.returns-in-None-clause-exact
returns-in-None-clause-exact c = sym (group_too_long c.args.word.now c.in-None.ensures)
