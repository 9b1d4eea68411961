use Rattle.std.proofs.Common.{◌∙◌, ap, Err}
use Rattle.std.proofs.lemmas.Result.{err_from_is_err_and}
use Rattle.manifest_tree.specs.Pieces.{open_tree, below_of}
use Rattle.manifest_tree.proofs.Steps.{aside_some, leads_err, apart_goes, apart_fails}
use Rattle.manifest_tree.proofs.content.read_markup.Goals as goal

pub returns-in_err-rest-clause-leads : goal.returns-in_err-rest-clause-leads
returns-in_err-rest-clause-leads c =
    let p = err_from_is_err_and c.from_residual.result c.from_residual.ensures.1 in
    leads_err _ _ _ _ c.in_err-rest.field-0.0 (p.1 ∙ ap Err p.2) (apart_fails (open_tree c.args.stack.top) (below_of c.args.stack) c.args.bytes.now c.in_err-rest.field-0.0 c.in_err-rest.ensures.rest)

pub returns-in-Some-clause-leads : goal.returns-in-Some-clause-leads
returns-in-Some-clause-leads c = apart_goes (open_tree c.args.stack.top) (below_of c.args.stack) c.args.bytes.now c.in-Some.rest.now (aside_some c.args.bytes.now c.in_ok-rest.field-0 c.in-Some.rest c.in_ok-rest.ensures.rest c.in-Some.is)
