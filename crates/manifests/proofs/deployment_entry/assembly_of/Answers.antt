use Rattle.std.proofs.Common.{List, [], sym, ap, ◌∙◌, arith}
use Rattle.std.specs.Prelude.{codes}
use Rattle.manifest_tree.specs.Tree.{Tree, tree_of}
use Rattle.manifest_parts.specs.declared.fault.ManifestFault.TheVariants.{Missing, Twice}
use Rattle.manifest_parts.specs.Elements.{called}
use Rattle.manifest_parts.specs.Outcome.{tree_at}
use Rattle.manifest_parts.proofs.Lookups.{filter_hits, filter_skips, filter_ends}
use Rattle.manifest_parts.proofs.Readings.{fails_same, refused}
use Rattle.manifests.specs.declared.deployment_entry.Found.{Found}
use Rattle.manifests.specs.Found.{one_behind, one_with}
use Rattle.manifests.proofs.Chains.{handed_on}
use Rattle.manifests.proofs.FoundLemmas.{those, refused_first, first_found, ended, whole_is}
use Rattle.manifests.proofs.deployment_entry.assembly_of.Goals as goal

pub returns-in_err-found : goal.returns-in_err-found
returns-in_err-found c =
    let wanted = codes "dependency" in
    let ns = c.children-nodes.result.now in
    let here = filter_hits (called wanted) tree_of ns c.loop-child.child-index c.child-item.result (omega arith) c.child-item.is (sym c.is_called.ensures ∙ c.if-not-is_called.false) in
    handed_on _ _ _ _ c.from_residual.ensures
    (fails_same _ _ _ (sym (c.loop-child.invariant ∙ whole_is ns c.args.root.now c.children-nodes.ensures))
    (refused_first _ c.loop-child.found (tree_of c.child-item.result) _ _ here c.in_err-found.ensures.refused))

pub loop-child-preserved : goal.loop-child-preserved
loop-child-preserved c =
    let wanted = codes "dependency" in
    let ns = c.children-nodes.result.now in
    let here = filter_hits (called wanted) tree_of ns c.loop-child.child-index c.child-item.result (omega arith) c.child-item.is (sym c.is_called.ensures ∙ c.if-not-is_called.false) in
    first_found c.loop-child.found c.in_ok-found.found (tree_of c.child-item.result) _ _ here c.in_ok-found.ensures.found ∙ c.loop-child.invariant

pub loop-child-preserved-then-not-is_called : goal.loop-child-preserved-then-not-is_called
loop-child-preserved-then-not-is_called c =
    let wanted = codes "dependency" in
    let passed = filter_skips (called wanted) tree_of c.children-nodes.result.now c.loop-child.child-index c.child-item.result (omega arith) c.child-item.is (sym c.is_called.ensures ∙ c.if-not-is_called.true) in
    ap (λ (us : List Tree). one_with c.loop-child.found (those us)) (sym passed) ∙ c.loop-child.invariant

pub returns-in-Nothing : goal.returns-in-Nothing
returns-in-Nothing c =
    let ns = c.children-nodes.result.now in
    refused tree_at _ (Missing (codes "dependentAssembly")) _ c.missing.ensures
    (sym (whole_is ns c.args.root.now c.children-nodes.ensures) ∙ sym c.loop-child.invariant
    ∙ ended c.loop-child.found _ (filter_ends (called (codes "dependency")) tree_of ns c.loop-child.child-index (omega arith))
    ∙ ap (λ (found : Found). one_behind found []) c.in-Nothing.is)

pub returns-in-One : goal.returns-in-One
returns-in-One c =
    let ns = c.children-nodes.result.now in
    sym (whole_is ns c.args.root.now c.children-nodes.ensures) ∙ sym c.loop-child.invariant
    ∙ ended c.loop-child.found _ (filter_ends (called (codes "dependency")) tree_of ns c.loop-child.child-index (omega arith))
    ∙ ap (λ (found : Found). one_behind found []) c.in-One.is

pub returns-in-More : goal.returns-in-More
returns-in-More c =
    let ns = c.children-nodes.result.now in
    refused tree_at _ (Twice (codes "dependentAssembly")) _ c.twice.ensures
    (sym (whole_is ns c.args.root.now c.children-nodes.ensures) ∙ sym c.loop-child.invariant
    ∙ ended c.loop-child.found _ (filter_ends (called (codes "dependency")) tree_of ns c.loop-child.child-index (omega arith))
    ∙ ap (λ (found : Found). one_behind found []) c.in-More.is)
