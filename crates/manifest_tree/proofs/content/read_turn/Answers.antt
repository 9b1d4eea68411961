use Rattle.std.proofs.Common.{◌∙◌, ap, Err}
use Rattle.std.proofs.lemmas.Result.{err_from_is_err_and}
use Rattle.manifest_tree.specs.Pieces.{open_tree, below_of}
use Rattle.manifest_tree.proofs.Steps.{leads_err, leads_after, ok_same, to_spot, inside_same}
use Rattle.manifest_tree.proofs.content.read_turn.Goals as goal

pub returns-in_err-run-clause-leads : goal.returns-in_err-run-clause-leads
returns-in_err-run-clause-leads c =
    let p = err_from_is_err_and c.from_residual.result c.from_residual.ensures.1 in
    leads_err _ _ _ _ c.in_err-run.field-0.0 (p.1 ∙ ap Err p.2) (c.in_err-run.ensures.leads (open_tree c.args.stack.top) (below_of c.args.stack))

pub returns-clause-leads : goal.returns-clause-leads
returns-clause-leads c =
    leads_after _ c.read_markup.result
    (to_spot (c.in_ok-run.ensures.leads (open_tree c.args.stack.top) (below_of c.args.stack))
    (inside_same _ _ _ _ (ok_same _ _ c.in_ok-stack.ensures.top) (ok_same _ _ c.in_ok-stack.ensures.below)))
    c.read_markup.ensures.leads
