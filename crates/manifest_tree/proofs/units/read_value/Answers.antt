use Rattle.std.proofs.Common.{Err, ap, ◌∙◌, arith}
use Rattle.std.proofs.lemmas.Result.{err_from_is_err_and}
use Rattle.manifest_tree.specs.Pieces.{piece_of}
use Rattle.manifest_tree.proofs.Steps.{text_stops, quote_first, leads_err, ok_is, none_left, value_more, value_fails, value_ends, value_cut}
use Rattle.manifest_tree.proofs.Spans.{value_run, no_value}
use Rattle.manifest_tree.proofs.units.read_value.Goals as goal

pub loop-first-init : goal.loop-first-init
loop-first-init c = record {
  reads = λ name attributes a around. value_run name attributes a c.args.quote around c.new-made.result.items c.args.bytes.now c.in_ok-rest.rest.now c.take_run.new.out.items (no_value name attributes a c.args.quote around c.args.bytes.now c.new-made.result.items c.new-made.ensures.items) (ok_is _ _ c.in_ok-rest.ensures.run) c.in_ok-rest.ensures.rest;
  shorter = omega (arith, c.in_ok-rest.ensures.shorter);
}

pub loop-first-preserved : goal.loop-first-preserved
loop-first-preserved c = record {
  reads = λ name attributes a around.
      let p = value_more name attributes a c.args.quote around c.loop-first.made.items c.loop-first.rest.now c.in-Some.first.now c.in-Some.tail.now (piece_of c.in_ok-piece.piece) c.in_ok-piece.behind.now c.push.new.out.items (c.loop-first.invariant.reads name attributes a around) c.in-Some.ensures.cases.0 c.if-first-quote.false c.in_ok-piece.ensures.unit (ok_is _ _ c.in_ok-push.ensures) in
      value_run name attributes a c.args.quote around c.push.new.out.items c.in_ok-piece.behind.now c.in_ok-rest-2.rest.now c.take_run-in-Some.new.out.items p (ok_is _ _ c.in_ok-rest-2.ensures.run) c.in_ok-rest-2.ensures.rest;
  shorter = omega (arith, c.in_ok-piece.ensures.shorter, c.in_ok-rest-2.ensures.shorter);
}

pub returns-in_err-piece-clause-leads : goal.returns-in_err-piece-clause-leads
returns-in_err-piece-clause-leads c = λ name attributes a around.
    let p = err_from_is_err_and c.from_residual-in_err-piece.result c.from_residual-in_err-piece.ensures.1 in
    leads_err _ _ _ _ c.in_err-piece.field-0.0 (p.1 ∙ ap Err p.2) (value_fails name attributes a c.args.quote around c.loop-first.made.items c.loop-first.rest.now c.in-Some.first.now c.in-Some.tail.now c.in_err-piece.field-0.0 (c.loop-first.invariant.reads name attributes a around) c.in-Some.ensures.cases.0 c.if-first-quote.false c.in_err-piece.ensures.unit)

pub returns-then-first-quote-clause-leads : goal.returns-then-first-quote-clause-leads
returns-then-first-quote-clause-leads c = λ name attributes a around.
    value_ends name attributes a c.args.quote around c.loop-first.made.items c.loop-first.rest.now c.in-Some.first.now c.in-Some.tail.now c.in_ok-into_text.field-0 (c.loop-first.invariant.reads name attributes a around) c.in-Some.ensures.cases.0 c.if-first-quote.true (ok_is _ _ c.in_ok-into_text.ensures)

pub returns-clause-leads : goal.returns-clause-leads
returns-clause-leads c = λ name attributes a around.
    leads_err _ _ _ _ _ c.fault.ensures (value_cut name attributes a c.args.quote around c.loop-first.made.items c.loop-first.rest.now (c.loop-first.invariant.reads name attributes a around) (none_left c.split_first.ensures.variant c.in_default.not-Some))

pub returns-in_err-into_text-clause-leads : goal.returns-in_err-into_text-clause-leads
returns-in_err-into_text-clause-leads c = λ name attributes a around.
    let p = err_from_is_err_and c.from_residual-in_err-into_text.result c.from_residual-in_err-into_text.ensures.1 in
    leads_err _ _ _ _ c.in_err-into_text.field-0.0 (p.1 ∙ ap Err p.2)
    (text_stops c.loop-first.made.items c.in_err-into_text.field-0.0 c.loop-first.made.items (c.loop-first.invariant.reads name attributes a around)
    (λ texts. texts.1 c.in-Some.tail.now (quote_first c.loop-first.rest.now c.in-Some.first.now c.args.quote c.in-Some.tail.now c.in-Some.ensures.cases.0 c.if-first-quote.true)) c.in_err-into_text.ensures)
