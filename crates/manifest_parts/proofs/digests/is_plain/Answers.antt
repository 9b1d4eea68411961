use Rattle.std.proofs.Common.{List, drop, map, sym, ap, ◌∙◌, arith}
use Rattle.std.specs.Prelude.{codes, filter}
use Rattle.manifest_tree.specs.Tree.{Tree, tree_of}
use Rattle.manifest_parts.specs.Elements.{called, children_called}
use Rattle.manifest_parts.specs.Parts.{all_plain, is_plain}
use Rattle.manifest_parts.proofs.Hashes.{inner, inner_plain, all_inner, all_stops, all_ends}
use Rattle.manifest_parts.proofs.digests.is_plain.Goals as goal

pub returns-then-not-are_passed : goal.returns-then-not-are_passed
unfolding is_plain children_called
returns-then-not-are_passed c =
    sym (all_inner (filter (called (codes "Transforms")) (map tree_of (drop c.loop-transforms.transforms-index c.children-nodes.result.now))) ∙ all_stops inner_plain (codes "Transforms") c.children-nodes.result.now c.loop-transforms.transforms-index c.transforms-item.result (omega arith) c.transforms-item.is (sym c.are_passed.ensures ∙ c.if-not-are_passed.true))
    ∙ c.loop-transforms.invariant ∙ ap (λ (ts : List Tree). all_plain (inner (filter (called (codes "Transforms")) ts))) c.children-nodes.ensures

pub returns : goal.returns
unfolding is_plain children_called
returns c =
    sym (all_inner (filter (called (codes "Transforms")) (map tree_of (drop c.loop-transforms.transforms-index c.children-nodes.result.now))) ∙ all_ends inner_plain (codes "Transforms") c.children-nodes.result.now c.loop-transforms.transforms-index (omega arith))
    ∙ c.loop-transforms.invariant ∙ ap (λ (ts : List Tree). all_plain (inner (filter (called (codes "Transforms")) ts))) c.children-nodes.ensures
