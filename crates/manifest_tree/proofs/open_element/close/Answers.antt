use Rattle.std.proofs.Common.{◌∙◌, ap, Err}
use Rattle.std.proofs.lemmas.Result.{err_from_is_err_and}
use Rattle.manifest_tree.specs.Pieces.{open_tree, below_of}
use Rattle.manifest_tree.specs.Spots.{finished, placed}
use Rattle.manifest_tree.proofs.Steps.{fails_text_too, gives_text_at}
use Rattle.manifest_tree.proofs.open_element.close.Goals as goal

pub returns-in_err-element : goal.returns-in_err-element
returns-in_err-element c =
    let p = err_from_is_err_and c.from_residual.result c.from_residual.ensures.1 in
    gives_text_at c.args.stack.top.text.items _ c.from_residual.result c.in_err-element.field-0.0 _ (p.1 ∙ ap Err p.2)
    (fails_text_too c.args.stack.top.text.items c.in_err-element.field-0.0 (finished (open_tree c.args.stack.top)) (placed (finished (open_tree c.args.stack.top)) (below_of c.args.stack)) c.in_err-element.ensures)
