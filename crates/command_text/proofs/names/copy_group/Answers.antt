use Rattle.std.proofs.Common.{◌∙◌, ℕ, List, Option, Some, IsSome, refl, sym, ap, subst}
use Rattle.machine.specs.Words.{IsGroup}
use Rattle.command_text.proofs.GroupWords.{group_form, some_group}
use Rattle.command_text.proofs.names.copy_group.Goals as goal

pub text_of-requires : goal.text_of-requires
text_of-requires c = (group_form c.args.bytes.now (sym c.if-not-is_group.ensures)).short.utf8

pub returns-in-Ok-clause-exact : goal.returns-in-Ok-clause-exact
returns-in-Ok-clause-exact c =
    ap Some c.in-Ok.ensures ∙ sym (some_group c.args.bytes.now (sym c.if-not-is_group.ensures))

pub returns-in-Ok-clause-group : goal.returns-in-Ok-clause-group
returns-in-Ok-clause-group c =
    subst IsGroup (sym c.in-Ok.ensures)
    (group_form c.args.bytes.now (sym c.if-not-is_group.ensures))

pub returns-in-Err-clause-memory : goal.returns-in-Err-clause-memory
returns-in-Err-clause-memory c =
    subst (λ (group : Option (List ℕ)). IsSome group)
    (sym (some_group c.args.bytes.now (sym c.if-not-is_group.ensures))) refl
