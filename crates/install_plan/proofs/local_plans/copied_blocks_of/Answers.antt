use Rattle.std.proofs.Common.{◌≤◌, ◌^◌, ◌∙◌, Bool, ap, cond, subst, sym}
use Rattle.machine.specs.Blocks.{blocks_of}
use Rattle.install_plan.proofs.local_plans.copied_blocks_of.Goals as goal

pub returns-then-lies_outside-clause-value : goal.returns-then-lies_outside-clause-value
returns-then-lies_outside-clause-value c =
    c.blocks_of.ensures.value
    ∙ sym (ap (λ (b : Bool). cond b (blocks_of c.args.file.now.length) 0) (sym c.lies_outside.ensures ∙ c.if-lies_outside.true))

pub returns-then-lies_outside-clause-few : goal.returns-then-lies_outside-clause-few
returns-then-lies_outside-clause-few c =
    subst (λ (b : Bool). c.blocks_of.result ≤ cond b (2 ^ 52) 0) (sym (sym c.lies_outside.ensures ∙ c.if-lies_outside.true)) c.blocks_of.ensures.few

pub returns-clause-value : goal.returns-clause-value
returns-clause-value c = sym (ap (λ (b : Bool). cond b (blocks_of c.args.file.now.length) 0) (sym c.lies_outside.ensures ∙ c.if-lies_outside.false))
