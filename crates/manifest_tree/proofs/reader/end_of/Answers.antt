use Rattle.std.proofs.Common.{◌∙◌, ap, sym, Err}
use Rattle.std.proofs.lemmas.Result.{err_from_is_err_and}
use Rattle.manifest_tree.specs.Spots.{here}
use Rattle.manifest_tree.proofs.Steps.{leads_err, reads_then, aside_some, aside_none, behind_white, behind_lost, behind_aside, behind_fails, behind_other}
use Rattle.manifest_tree.proofs.reader.end_of.Goals as goal

pub loop-first-init : goal.loop-first-init
loop-first-init c = λ t. here

pub loop-first-preserved-then-is_white : goal.loop-first-preserved-then-is_white
loop-first-preserved-then-is_white c = λ t.
    reads_then (c.loop-first.invariant t) (behind_white t c.loop-first.rest.now c.in-Some.first.now c.in-Some.tail.now c.in-Some.ensures.cases.0 (sym c.is_white.ensures ∙ c.if-is_white.true))

pub returns-then-first-ne60 : goal.returns-then-first-ne60
returns-then-first-ne60 c = λ t.
    leads_err _ _ _ _ _ c.fault.ensures (behind_lost t c.loop-first.rest.now c.in-Some.first.now c.in-Some.tail.now (c.loop-first.invariant t) c.in-Some.ensures.cases.0 (sym c.is_white.ensures ∙ c.if-is_white.false) c.if-first-ne60.true)

pub returns-in_err-after : goal.returns-in_err-after
returns-in_err-after c = λ t.
    let p = err_from_is_err_and c.from_residual.result c.from_residual.ensures.1 in
    leads_err _ _ _ _ c.in_err-after.field-0.0 (p.1 ∙ ap Err p.2) (behind_fails t c.loop-first.rest.now c.in-Some.first.now c.in-Some.tail.now c.in_err-after.field-0.0 (c.loop-first.invariant t) c.in-Some.ensures.cases.0 (sym c.is_white.ensures ∙ c.if-is_white.false) c.if-first-ne60.false c.in_err-after.ensures.rest)

pub loop-first-preserved : goal.loop-first-preserved
loop-first-preserved c = λ t.
    behind_aside t c.loop-first.rest.now c.in-Some.first.now c.in-Some.tail.now c.in-Some-2.after.now (c.loop-first.invariant t) c.in-Some.ensures.cases.0 (sym c.is_white.ensures ∙ c.if-is_white.false) c.if-first-ne60.false (aside_some c.in-Some.tail.now c.in_ok-after.field-0 c.in-Some-2.after c.in_ok-after.ensures.rest c.in-Some-2.is)

pub returns-in-None : goal.returns-in-None
returns-in-None c = λ t.
    leads_err _ _ _ _ _ c.fault-in-None.ensures (behind_other t c.loop-first.rest.now c.in-Some.first.now c.in-Some.tail.now (c.loop-first.invariant t) c.in-Some.ensures.cases.0 (sym c.is_white.ensures ∙ c.if-is_white.false) c.if-first-ne60.false (aside_none c.in-Some.tail.now c.in_ok-after.field-0 c.in_ok-after.ensures.rest c.in-None.is))
