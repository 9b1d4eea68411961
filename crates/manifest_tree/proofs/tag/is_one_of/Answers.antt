use Rattle.std.proofs.Common.{sym, ◌∙◌, arith}
use Rattle.manifest_tree.proofs.Scans.{among_found}
use Rattle.manifest_tree.proofs.tag.is_one_of.Goals as goal

pub returns-then-eq : goal.returns-then-eq
returns-then-eq c =
    sym (among_found c.args.seen.now c.args.name.now c.loop-attribute.attribute-index c.attribute-item.result c.as_bytes.result.now (omega arith) c.attribute-item.is c.as_bytes.ensures.value (sym c.eq.ensures ∙ c.if-eq.true)) ∙ c.loop-attribute.invariant
