use Rattle.std.proofs.Common.{List, [], sym, ap, ◌∙◌, arith}
use Rattle.manifest_tree.specs.Tree.{Tree}
use Rattle.manifest_parts.proofs.Readings.{fails_same}
use Rattle.manifests.specs.Applications.{files_from}
use Rattle.manifests.proofs.Chains.{handed_on}
use Rattle.manifests.proofs.FileSteps.{read_more, refused_here, read_all}
use Rattle.manifests.proofs.application.files_of.Goals as goal

pub returns-in_err-files : goal.returns-in_err-files
returns-in_err-files c =
    let whole = ap (λ (ts : List Tree). files_from [] ts) (sym c.children-nodes.ensures) ∙ c.loop-child.invariant in
    handed_on _ _ _ _ c.from_residual.ensures
    (fails_same _ _ _ whole
    (refused_here c.loop-child.files c.children-nodes.result.now c.loop-child.child-index c.child-item.result (omega arith) c.child-item.is _ c.in_err-files.ensures))

pub loop-child-preserved : goal.loop-child-preserved
loop-child-preserved c =
    c.loop-child.invariant
    ∙ read_more c.loop-child.files c.children-nodes.result.now c.loop-child.child-index c.child-item.result (omega arith) c.child-item.is _ c.in_ok-files.ensures

pub returns : goal.returns
returns c =
    let whole = ap (λ (ts : List Tree). files_from [] ts) (sym c.children-nodes.ensures) ∙ c.loop-child.invariant in
    whole ∙ read_all c.loop-child.files c.children-nodes.result.now c.loop-child.child-index (omega arith)
