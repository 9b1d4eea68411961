use Rattle.std.proofs.Common.{◌∙◌, ap, Err}
use Rattle.std.proofs.lemmas.Result.{err_from_is_err_and}
use Rattle.manifest_tree.specs.Pieces.{open_tree, around_of, tag_spot}
use Rattle.manifest_tree.specs.Spots.{finished}
use Rattle.manifest_tree.proofs.Steps.{empty_text, gives_at}
use Rattle.manifest_tree.proofs.open_element.start.Goals as goal

pub returns-in_err-element : goal.returns-in_err-element
returns-in_err-element c =
    let p = err_from_is_err_and c.from_residual.result c.from_residual.ensures.1 in
    gives_at _ c.from_residual.result c.in_err-element.field-0.0 _ (p.1 ∙ ap Err p.2)
    (empty_text c.open-opened.result.text.items c.in_err-element.field-0.0 (finished (open_tree c.open-opened.result)) (tag_spot c.args.tag (around_of c.args.around)) c.open-opened.ensures.text c.in_err-element.ensures)
