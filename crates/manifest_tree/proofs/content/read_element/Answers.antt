use Rattle.std.proofs.Common.{◌∙◌, ◌∷◌, ◌<◌, ap, sym, refl, Err, length, arith}
use Rattle.std.proofs.lemmas.Result.{err_from_is_err_and}
use Rattle.manifest_tree.specs.Pieces.{open_tree, below_of, tag_spot}
use Rattle.manifest_tree.specs.Spots.{here, placed, finished}
use Rattle.manifest_tree.proofs.Steps.{text_stops, only_memory, reads_join, stops_by_after, leads_err, none_left, ok_same, to_spot, opens_long, markup_cut, end_goes, end_fails, markup_lost, start_goes, start_deep}
use Rattle.manifest_tree.proofs.content.read_element.Goals as goal

pub returns-in_default-clause-leads : goal.returns-in_default-clause-leads
returns-in_default-clause-leads c =
    leads_err _ _ _ _ _ c.fault.ensures (markup_cut (open_tree c.args.stack.top) (below_of c.args.stack) c.args.bytes.now c.requires.no_aside (none_left c.split_first.ensures.variant c.in_default.not-Some))

pub returns-in_err-rest-clause-leads : goal.returns-in_err-rest-clause-leads
returns-in_err-rest-clause-leads c =
    let p = err_from_is_err_and c.from_residual.result c.from_residual.ensures.1 in
    leads_err _ _ _ _ c.in_err-rest.field-0.0 (p.1 ∙ ap Err p.2) (end_fails (open_tree c.args.stack.top) (below_of c.args.stack) c.args.bytes.now c.in-Some.first.now c.in-Some.tail.now _ c.as_bytes.result.now c.in_err-rest.field-0.0 c.requires.no_aside c.in-Some.ensures.cases.0 c.if-first-eq47.true refl c.as_bytes.ensures.value c.in_err-rest.ensures.rest)

pub returns-then-first-eq47-clause-leads : goal.returns-then-first-eq47-clause-leads
returns-then-first-eq47-clause-leads c =
    to_spot (end_goes (open_tree c.args.stack.top) (below_of c.args.stack) c.args.bytes.now c.in-Some.first.now c.in-Some.tail.now _ c.as_bytes.result.now c.in_ok-rest.rest.now c.requires.no_aside c.in-Some.ensures.cases.0 c.if-first-eq47.true refl c.as_bytes.ensures.value c.in_ok-rest.ensures.rest) (ok_same _ _ c.in_ok-position.ensures)

pub returns-then-not-has_name-clause-leads : goal.returns-then-not-has_name-clause-leads
returns-then-not-has_name-clause-leads c =
    leads_err _ _ _ _ _ c.fault-then-not-has_name.ensures (markup_lost (open_tree c.args.stack.top) (below_of c.args.stack) c.args.bytes.now c.in-Some.first.now c.in-Some.tail.now c.requires.no_aside c.in-Some.ensures.cases.0 c.if-first-eq47.false (sym c.has_name.ensures ∙ c.if-not-has_name.true))

pub returns-then-len-clause-leads : goal.returns-then-len-clause-leads
returns-then-len-clause-leads c =
    start_deep (open_tree c.args.stack.top) (below_of c.args.stack) c.args.bytes.now c.in-Some.first.now c.in-Some.tail.now _ c.requires.no_aside c.in-Some.ensures.cases.0 c.if-first-eq47.false (sym c.has_name.ensures ∙ c.if-not-has_name.false) (omega (arith, opens_long c.args.stack.below.items, c.args.stack.below.ok.0, c.len.ensures, c.if-len.true)) refl

pub returns-in_err-tag-clause-leads : goal.returns-in_err-tag-clause-leads
returns-in_err-tag-clause-leads c =
    let p = err_from_is_err_and c.from_residual-in_err-tag.result c.from_residual-in_err-tag.ensures.1 in
    let shallow : length (below_of c.args.stack) < 63 = omega (arith, opens_long c.args.stack.below.items, c.args.stack.below.ok.0, c.len.ensures, c.if-len.false) in
    let q = start_goes (open_tree c.args.stack.top) (below_of c.args.stack) c.args.bytes.now c.in-Some.first.now c.in-Some.tail.now c.requires.no_aside c.in-Some.ensures.cases.0 c.if-first-eq47.false (sym c.has_name.ensures ∙ c.if-not-has_name.false) shallow in
    leads_err _ _ _ _ c.in_err-tag.field-0.0 (p.1 ∙ ap Err p.2) (stops_by_after c.in_err-tag.field-0.0 q (c.in_err-tag.ensures.leads _))

pub returns-clause-leads : goal.returns-clause-leads
returns-clause-leads c =
    let shallow : length (below_of c.args.stack) < 63 = omega (arith, opens_long c.args.stack.below.items, c.args.stack.below.ok.0, c.len.ensures, c.if-len.false) in
    let q = start_goes (open_tree c.args.stack.top) (below_of c.args.stack) c.args.bytes.now c.in-Some.first.now c.in-Some.tail.now c.requires.no_aside c.in-Some.ensures.cases.0 c.if-first-eq47.false (sym c.has_name.ensures ∙ c.if-not-has_name.false) shallow in
    to_spot (reads_join q (c.in_ok-tag.ensures.leads _)) (ok_same _ _ c.in_ok-position-2.ensures)

pub returns-in_err-position-clause-leads : goal.returns-in_err-position-clause-leads
returns-in_err-position-clause-leads c =
    let p = err_from_is_err_and c.from_residual-in_err-position.result c.from_residual-in_err-position.ensures.1 in
    leads_err _ _ _ _ c.in_err-position.field-0.0 (p.1 ∙ ap Err p.2)
    (text_stops c.args.stack.top.text.items c.in_err-position.field-0.0 (placed (finished (open_tree c.args.stack.top)) (below_of c.args.stack)) here (λ texts. texts c.args.bytes.now refl) c.in_err-position.ensures)

pub returns-in_err-position-2-clause-leads : goal.returns-in_err-position-2-clause-leads
returns-in_err-position-2-clause-leads c =
    let p = err_from_is_err_and c.from_residual-in_err-position-2.result c.from_residual-in_err-position-2.ensures.1 in
    leads_err _ _ _ _ c.in_err-position-2.field-0.0 (p.1 ∙ ap Err p.2) (only_memory _ _ (tag_spot c.in_ok-tag.tag (open_tree c.args.stack.top ∷ below_of c.args.stack)) c.in_err-position-2.field-0.0 c.in_err-position-2.ensures)
