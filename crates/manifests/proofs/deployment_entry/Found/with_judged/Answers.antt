use Rattle.std.proofs.Common.{refl, true, false}
use Rattle.std.proofs.Common.{◌≡◌, Ok, ap, ◌∙◌}
use Rattle.manifest_tree.specs.Tree.{tree_of}
use Rattle.manifests.specs.Types.{installed_type}
use Rattle.manifests.proofs.Chains.{err_handed_on}
use Rattle.manifests.proofs.FoundLemmas.{judged, judged_badly}
use Rattle.manifests.proofs.deployment_entry.Found.with_judged.Goals as goal

pub returns-in_err-wanted-clause-refused : goal.returns-in_err-wanted-clause-refused
returns-in_err-wanted-clause-refused c =
    err_handed_on _ _ _ c.from_residual.ensures (judged_badly c.args.self (tree_of c.args.assembly.now) _ c.in_err-wanted.ensures)

pub returns-then-wanted-clause-found : goal.returns-then-wanted-clause-found
returns-then-wanted-clause-found c =
    let is : installed_type (tree_of c.args.assembly.now) ≡ Ok true = c.in_ok-wanted.ensures ∙ ap Ok c.if-wanted.true in
    judged c.args.self c.with.result (tree_of c.args.assembly.now) true c.with.ensures is

pub returns-clause-found : goal.returns-clause-found
returns-clause-found c =
    let is : installed_type (tree_of c.args.assembly.now) ≡ Ok false = c.in_ok-wanted.ensures ∙ ap Ok c.if-wanted.false in
    judged c.args.self c.args.self (tree_of c.args.assembly.now) false (λ ts. refl) is
