use Rattle.std.proofs.Common.{Err, ap, ◌∙◌, arith}
use Rattle.std.proofs.lemmas.Result.{err_from_is_err_and}
use Rattle.manifest_tree.specs.Spots.{with_text}
use Rattle.manifest_tree.specs.Pieces.{piece_of}
use Rattle.manifest_tree.proofs.Steps.{leads_err, ok_is, none_left, data_none, data_more, data_fails, data_cut}
use Rattle.manifest_tree.proofs.Spans.{text_run}
use Rattle.manifest_tree.proofs.units.read_data.Goals as goal

pub loop-first-init : goal.loop-first-init
loop-first-init c = record {
  reads = λ top around. text_run top around c.new-made.result.items c.args.bytes.now c.in_ok-rest.rest.now c.take_run.new.out.items (data_none top around c.args.bytes.now c.new-made.result.items c.new-made.ensures.items) (ok_is _ _ c.in_ok-rest.ensures.run) c.in_ok-rest.ensures.rest;
  shorter = omega (arith, c.in_ok-rest.ensures.shorter);
}

pub loop-first-preserved : goal.loop-first-preserved
loop-first-preserved c = record {
  reads = λ top around.
      let p = data_more top around c.loop-first.made.items c.loop-first.rest.now c.in-Some.first.now c.in-Some.tail.now (piece_of c.in_ok-piece.piece) c.in_ok-piece.behind.now c.push.new.out.items (c.loop-first.invariant.reads top around) c.in-Some.ensures.cases.0 c.if-first-eq60.false c.in_ok-piece.ensures.unit (ok_is _ _ c.in_ok-push.ensures) in
      text_run top around c.push.new.out.items c.in_ok-piece.behind.now c.in_ok-rest-2.rest.now c.take_run-in-Some.new.out.items p (ok_is _ _ c.in_ok-rest-2.ensures.run) c.in_ok-rest-2.ensures.rest;
  shorter = omega (arith, c.in_ok-piece.ensures.shorter, c.in_ok-rest-2.ensures.shorter);
}

pub returns-in_err-piece-clause-leads : goal.returns-in_err-piece-clause-leads
returns-in_err-piece-clause-leads c = λ top around.
    let p = err_from_is_err_and c.from_residual-in_err-piece.result c.from_residual-in_err-piece.ensures.1 in
    leads_err _ _ _ _ c.in_err-piece.field-0.0 (p.1 ∙ ap Err p.2) (data_fails top around (with_text top c.loop-first.made.items) c.loop-first.rest.now c.in-Some.first.now c.in-Some.tail.now c.in_err-piece.field-0.0 (c.loop-first.invariant.reads top around) c.in-Some.ensures.cases.0 c.if-first-eq60.false c.in_err-piece.ensures.unit)

pub returns-clause-leads : goal.returns-clause-leads
returns-clause-leads c = λ top around.
    leads_err _ _ _ _ _ c.fault.ensures (data_cut top around (with_text top c.loop-first.made.items) c.loop-first.rest.now (c.loop-first.invariant.reads top around) (none_left c.split_first.ensures.variant c.in_default.not-Some))
