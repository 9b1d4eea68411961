use Rattle.std.proofs.Common.{ℕ, List, length, ap, ◌∙◌}
use Rattle.std.specs.Prelude.{not, nat_le}
use Rattle.small_types.specs.declared.limits.TheConstants.{LOCAL_NAME_LIMIT}
use Rattle.manifests.proofs.NameLemmas.{below_is_not_listed, program_is_listed, data_is_listed}
use Rattle.manifests.proofs.entry.is_listed.Goals as goal

pub returns-then-not-local : goal.returns-then-not-local
returns-then-not-local c =
    ap not c.if-not-local.true
    ∙ program_is_listed c.is_below_pre.result c.args.local c.args.name.now c.is_below_pre.ensures c.if-not-is_below_pre.true c.if-not-local.true

pub returns-else-not-local : goal.returns-else-not-local
returns-else-not-local c =
    ap (λ (bytes : List ℕ). nat_le (length bytes) LOCAL_NAME_LIMIT) c.as_bytes.ensures.value
    ∙ data_is_listed c.is_below_pre.result c.args.local c.args.name.now c.is_below_pre.ensures c.if-not-is_below_pre.true c.if-not-local.false

pub returns-else-not-is_below_pre : goal.returns-else-not-is_below_pre
returns-else-not-is_below_pre c =
    ap not c.if-not-is_below_pre.false
    ∙ below_is_not_listed c.is_below_pre.result c.args.local c.args.name.now c.is_below_pre.ensures c.if-not-is_below_pre.false
