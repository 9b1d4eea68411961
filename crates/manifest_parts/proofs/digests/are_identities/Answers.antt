use Rattle.std.proofs.Common.{List, sym, ap, ◌∙◌, arith}
use Rattle.std.specs.Prelude.{codes, filter}
use Rattle.manifest_tree.specs.Tree.{Tree}
use Rattle.manifest_parts.specs.Elements.{called, children_called}
use Rattle.manifest_parts.specs.Parts.{all_plain}
use Rattle.manifest_parts.proofs.Hashes.{plain, all_stops, all_ends}
use Rattle.manifest_parts.proofs.digests.are_identities.Goals as goal

pub returns-then-not-is_passed : goal.returns-then-not-is_passed
unfolding children_called
returns-then-not-is_passed c =
    sym (all_stops plain (codes "Transform") c.children-nodes.result.now c.loop-transform.transform-index c.transform-item.result (omega arith) c.transform-item.is (sym c.is_passed.ensures ∙ c.if-not-is_passed.true))
    ∙ c.loop-transform.invariant ∙ ap (λ (ts : List Tree). all_plain (filter (called (codes "Transform")) ts)) c.children-nodes.ensures

pub returns : goal.returns
unfolding children_called
returns c =
    sym (all_ends plain (codes "Transform") c.children-nodes.result.now c.loop-transform.transform-index (omega arith))
    ∙ c.loop-transform.invariant ∙ ap (λ (ts : List Tree). all_plain (filter (called (codes "Transform")) ts)) c.children-nodes.ensures
