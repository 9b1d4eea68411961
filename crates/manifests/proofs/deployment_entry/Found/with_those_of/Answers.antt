use Rattle.std.proofs.Common.{List, ◌++◌, sym, ap, ◌∙◌, arith}
use Rattle.std.specs.Prelude.{codes}
use Rattle.manifest_tree.specs.Tree.{Tree, tree_of}
use Rattle.manifest_parts.specs.Elements.{called}
use Rattle.manifest_parts.proofs.Lookups.{filter_hits, filter_skips, filter_ends}
use Rattle.manifest_parts.proofs.Readings.{fails_same}
use Rattle.manifests.specs.Found.{one_with}
use Rattle.manifests.proofs.Chains.{err_handed_on}
use Rattle.manifests.proofs.FoundLemmas.{found_more, refused_here, found_ends, called_are}
use Rattle.manifests.proofs.deployment_entry.Found.with_those_of.Goals as goal

pub returns-in_err-found-clause-refused : goal.returns-in_err-found-clause-refused
returns-in_err-found-clause-refused c =
    let wanted = codes "dependentAssembly" in
    let ns = c.children-nodes.result.now in
    let here = filter_hits (called wanted) tree_of ns c.loop-child.child-index c.child-item.result (omega arith) c.child-item.is (sym c.is_called.ensures ∙ c.if-not-is_called.false) in
    let all = called_are wanted ns c.args.dependency.now c.children-nodes.ensures in
    err_handed_on _ _ _ c.from_residual.ensures (λ ts.
    fails_same _ _ _ (sym (c.loop-child.invariant ts ∙ ap (λ (us : List Tree). one_with c.args.self (us ++ ts)) all))
    (refused_here c.loop-child.found (tree_of c.child-item.result) _ _ here _ c.in_err-found.ensures.refused ts))

pub returns-clause-found : goal.returns-clause-found
returns-clause-found c =
    let wanted = codes "dependentAssembly" in
    let ns = c.children-nodes.result.now in
    let none = filter_ends (called wanted) tree_of ns c.loop-child.child-index (omega arith) in
    let all = called_are wanted ns c.args.dependency.now c.children-nodes.ensures in
    λ ts. found_ends c.loop-child.found _ none ts ∙ c.loop-child.invariant ts ∙ ap (λ (us : List Tree). one_with c.args.self (us ++ ts)) all

pub loop-child-preserved : goal.loop-child-preserved
loop-child-preserved c =
    let wanted = codes "dependentAssembly" in
    let ns = c.children-nodes.result.now in
    let here = filter_hits (called wanted) tree_of ns c.loop-child.child-index c.child-item.result (omega arith) c.child-item.is (sym c.is_called.ensures ∙ c.if-not-is_called.false) in
    λ ts. found_more c.loop-child.found (tree_of c.child-item.result) _ _ here c.in_ok-found.found c.in_ok-found.ensures.found ts ∙ c.loop-child.invariant ts

pub loop-child-preserved-then-not-is_called : goal.loop-child-preserved-then-not-is_called
loop-child-preserved-then-not-is_called c =
    let wanted = codes "dependentAssembly" in
    let passed = filter_skips (called wanted) tree_of c.children-nodes.result.now c.loop-child.child-index c.child-item.result (omega arith) c.child-item.is (sym c.is_called.ensures ∙ c.if-not-is_called.true) in
    λ ts. ap (λ (us : List Tree). one_with c.loop-child.found (us ++ ts)) (sym passed) ∙ c.loop-child.invariant ts
