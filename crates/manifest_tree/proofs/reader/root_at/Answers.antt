use Rattle.std.proofs.Common.{◌∙◌, ap, sym, Err, arith}
use Rattle.std.proofs.lemmas.Result.{err_from_is_err_and}
use Rattle.manifest_tree.specs.Spots.{here}
use Rattle.manifest_tree.proofs.Steps.{leads_err, reads_then, none_left, aside_some, aside_none, some_shorter, before_white, before_lost, before_cut, before_apart, before_fails, before_root, before_unnamed}
use Rattle.manifest_tree.proofs.reader.root_at.Goals as goal

pub loop-first-init : goal.loop-first-init
loop-first-init c = record { reads = here; shorter = omega arith }

pub loop-first-preserved-then-is_white : goal.loop-first-preserved-then-is_white
loop-first-preserved-then-is_white c = record {
  reads = reads_then c.loop-first.invariant.reads (before_white c.loop-first.rest.now c.in-Some.first.now c.in-Some.tail.now c.in-Some.ensures.cases.0 (sym c.is_white.ensures ∙ c.if-is_white.true));
  shorter = omega (arith, c.in-Some.ensures.cases.1, c.loop-first.invariant.shorter);
}

pub returns-then-first-ne60-clause-leads : goal.returns-then-first-ne60-clause-leads
returns-then-first-ne60-clause-leads c =
    leads_err _ _ _ _ _ c.fault.ensures (before_lost c.loop-first.rest.now c.in-Some.first.now c.in-Some.tail.now c.loop-first.invariant.reads c.in-Some.ensures.cases.0 (sym c.is_white.ensures ∙ c.if-is_white.false) c.if-first-ne60.true)

pub returns-in_err-after-clause-leads : goal.returns-in_err-after-clause-leads
returns-in_err-after-clause-leads c =
    let p = err_from_is_err_and c.from_residual.result c.from_residual.ensures.1 in
    leads_err _ _ _ _ c.in_err-after.field-0.0 (p.1 ∙ ap Err p.2) (before_fails c.loop-first.rest.now c.in-Some.first.now c.in-Some.tail.now c.in_err-after.field-0.0 c.loop-first.invariant.reads c.in-Some.ensures.cases.0 (sym c.is_white.ensures ∙ c.if-is_white.false) c.if-first-ne60.false c.in_err-after.ensures.rest)

pub loop-first-preserved : goal.loop-first-preserved
loop-first-preserved c = record {
  reads = before_apart c.loop-first.rest.now c.in-Some.first.now c.in-Some.tail.now c.in-Some-2.after.now c.loop-first.invariant.reads c.in-Some.ensures.cases.0 (sym c.is_white.ensures ∙ c.if-is_white.false) c.if-first-ne60.false (aside_some c.in-Some.tail.now c.in_ok-after.field-0 c.in-Some-2.after c.in_ok-after.ensures.rest c.in-Some-2.is);
  shorter = omega (arith, c.in-Some.ensures.cases.1, c.loop-first.invariant.shorter, some_shorter c.in-Some.tail.now c.in_ok-after.field-0 c.in-Some-2.after c.in_ok-after.ensures.shorter c.in-Some-2.is);
}

pub returns-then-not-has_name-clause-leads : goal.returns-then-not-has_name-clause-leads
returns-then-not-has_name-clause-leads c =
    leads_err _ _ _ _ _ c.fault-then-not-has_name.ensures (before_unnamed c.loop-first.rest.now c.in-Some.first.now c.in-Some.tail.now c.loop-first.invariant.reads c.in-Some.ensures.cases.0 (sym c.is_white.ensures ∙ c.if-is_white.false) c.if-first-ne60.false (aside_none c.in-Some.tail.now c.in_ok-after.field-0 c.in_ok-after.ensures.rest c.in-None.is) (sym c.has_name.ensures ∙ c.if-not-has_name.true))

pub returns-in-None-clause-leads : goal.returns-in-None-clause-leads
returns-in-None-clause-leads c =
    before_root c.loop-first.rest.now c.in-Some.first.now c.in-Some.tail.now c.loop-first.invariant.reads c.in-Some.ensures.cases.0 (sym c.is_white.ensures ∙ c.if-is_white.false) c.if-first-ne60.false (aside_none c.in-Some.tail.now c.in_ok-after.field-0 c.in_ok-after.ensures.rest c.in-None.is) (sym c.has_name.ensures ∙ c.if-not-has_name.false)

pub returns-clause-leads : goal.returns-clause-leads
returns-clause-leads c =
    leads_err _ _ _ _ _ c.fault-2.ensures (before_cut c.loop-first.rest.now c.loop-first.invariant.reads (none_left c.split_first.ensures.variant c.in_default.not-Some))
