use Rattle.std.proofs.Common.{◌≡◌, ◌+◌, List, [], Option, sym, ap, ◌∙◌, arith, map, drop}
use Rattle.std.specs.Prelude.{filter}
use Rattle.std.specs.Borrow.{Bor}
use Rattle.manifest_tree.specs.declared.node.Node.{Node}
use Rattle.manifest_tree.specs.Tree.{Tree, tree_of}
use Rattle.manifest_parts.specs.declared.fault.ManifestFault.TheVariants.{Missing, Twice}
use Rattle.manifest_parts.specs.Elements.{called}
use Rattle.manifest_parts.specs.Outcome.{tree_at, maybe_tree}
use Rattle.manifest_parts.proofs.Lookups.{once_is, one_behind, filter_hits, filter_ends, second_found}
use Rattle.manifest_parts.proofs.Readings.{refused}
use Rattle.manifest_parts.proofs.elements.once.Goals as goal

pub returns-then-is_some : goal.returns-then-is_some
returns-then-is_some c =
    let wanted = c.args.wanted.now in
    let ns = c.children-nodes.result.now in
    refused tree_at _ (Twice wanted) _ c.twice.ensures
    (once_is wanted ns c.args.node.now c.children-nodes.ensures ∙ sym c.loop-child.invariant
    ∙ ap (one_behind wanted (maybe_tree c.loop-child.found)) (filter_hits (called wanted) tree_of ns c.loop-child.child-index c.child-item.result (omega arith) c.child-item.is (sym c.is_called.ensures ∙ c.if-not-is_called.false))
    ∙ second_found wanted c.loop-child.found (tree_of c.child-item.result) (filter (called wanted) (map tree_of (drop (c.loop-child.child-index + 1) ns))) (sym c.is_some.ensures ∙ c.if-is_some.true))

pub returns-in-Some : goal.returns-in-Some
returns-in-Some c =
    let wanted = c.args.wanted.now in
    let ns = c.children-nodes.result.now in
    once_is wanted ns c.args.node.now c.children-nodes.ensures ∙ sym c.loop-child.invariant
    ∙ ap (one_behind wanted (maybe_tree c.loop-child.found)) (filter_ends (called wanted) tree_of ns c.loop-child.child-index (omega arith))
    ∙ ap (λ (o : Option (Bor Node)). one_behind wanted (maybe_tree o) []) c.in-Some.is

pub returns-in-None : goal.returns-in-None
returns-in-None c =
    let wanted = c.args.wanted.now in
    let ns = c.children-nodes.result.now in
    refused tree_at _ (Missing wanted) _ c.missing.ensures
    (once_is wanted ns c.args.node.now c.children-nodes.ensures ∙ sym c.loop-child.invariant
    ∙ ap (one_behind wanted (maybe_tree c.loop-child.found)) (filter_ends (called wanted) tree_of ns c.loop-child.child-index (omega arith))
    ∙ ap (λ (o : Option (Bor Node)). one_behind wanted (maybe_tree o) []) c.in-None.is)
