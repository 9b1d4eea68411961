use Rattle.std.proofs.Common.{◌∙◌, ap, Err, []}
use Rattle.std.proofs.lemmas.Result.{err_from_is_err_and}
use Rattle.manifest_tree.proofs.Steps.{leads_err, leads_after, to_spot, ok_same}
use Rattle.manifest_tree.proofs.reader.read_root.Goals as goal

pub returns-in_err-tag : goal.returns-in_err-tag
returns-in_err-tag c =
    let p = err_from_is_err_and c.from_residual.result c.from_residual.ensures.1 in
    leads_err _ _ _ _ c.in_err-tag.field-0.0 (p.1 ∙ ap Err p.2) (c.in_err-tag.ensures.leads [])

pub returns : goal.returns
returns c = leads_after _ c.read_content.result (to_spot (c.in_ok-tag.ensures.leads []) (ok_same _ _ c.in_ok-position.ensures)) c.read_content.ensures
