use Rattle.std.proofs.Common.{◌∙◌, ap, Err}
use Rattle.std.proofs.lemmas.Result.{err_from_is_err_and}
use Rattle.manifest_tree.specs.Tree.{tree_of}
use Rattle.manifest_tree.proofs.Steps.{leads_err, reads_join, stops_by_after, begun_goes, begun_fails}
use Rattle.manifest_tree.proofs.reader.read_text.Goals as goal

pub returns-in_err-start : goal.returns-in_err-start
returns-in_err-start c =
    let p = err_from_is_err_and c.from_residual.result c.from_residual.ensures.1 in
    leads_err _ _ _ _ c.in_err-start.field-0.0 (p.1 ∙ ap Err p.2) (begun_fails c.args.bytes.now c.in_err-start.field-0.0 c.in_err-start.ensures.rest)

pub returns-in_err-name : goal.returns-in_err-name
returns-in_err-name c =
    let p = err_from_is_err_and c.from_residual-in_err-name.result c.from_residual-in_err-name.ensures.1 in
    leads_err _ _ _ _ c.in_err-name.field-0.0 (p.1 ∙ ap Err p.2) (stops_by_after c.in_err-name.field-0.0 (begun_goes c.args.bytes.now c.in_ok-start.start.now c.in_ok-start.ensures.rest) c.in_err-name.ensures.leads)

pub returns-in_err-root : goal.returns-in_err-root
returns-in_err-root c =
    let p = err_from_is_err_and c.from_residual-in_err-root.result c.from_residual-in_err-root.ensures.1 in
    leads_err _ _ _ _ c.in_err-root.field-0.0 (p.1 ∙ ap Err p.2) (stops_by_after c.in_err-root.field-0.0 (reads_join (begun_goes c.args.bytes.now c.in_ok-start.start.now c.in_ok-start.ensures.rest) c.in_ok-name.ensures.leads) c.in_err-root.ensures)

pub returns-in_err-end_of : goal.returns-in_err-end_of
returns-in_err-end_of c =
    let p = err_from_is_err_and c.from_residual-in_err-end_of.result c.from_residual-in_err-end_of.ensures.1 in
    leads_err _ _ _ _ c.in_err-end_of.field-0.0 (p.1 ∙ ap Err p.2) (stops_by_after c.in_err-end_of.field-0.0 (reads_join (reads_join (begun_goes c.args.bytes.now c.in_ok-start.start.now c.in_ok-start.ensures.rest) c.in_ok-name.ensures.leads) c.in_ok-root.ensures) (c.in_err-end_of.ensures (tree_of c.in_ok-root.root)))

pub returns : goal.returns
returns c = reads_join (reads_join (reads_join (begun_goes c.args.bytes.now c.in_ok-start.start.now c.in_ok-start.ensures.rest) c.in_ok-name.ensures.leads) c.in_ok-root.ensures) (c.in_ok-end_of.ensures (tree_of c.in_ok-root.root))
