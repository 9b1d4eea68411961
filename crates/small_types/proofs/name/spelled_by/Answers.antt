use Rattle.std.proofs.Common.{◌∙◌, sym}
use Rattle.small_types.proofs.Spelled.{not_fit, not_text, name_from}
use Rattle.small_types.proofs.name.spelled_by.Goals as goal

pub returns-then-not-is_fit : goal.returns-then-not-is_fit
returns-then-not-is_fit c = not_fit _ (sym c.is_fit.ensures ∙ c.if-not-is_fit.true)

pub returns-in-Ok : goal.returns-in-Ok
returns-in-Ok c =
    let fit = sym c.is_fit.ensures ∙ c.if-not-is_fit.false in
    (c.in-Ok.ensures.cases.0, name_from _ fit c.in-Ok.ensures.cases.1)

pub returns-in-Err : goal.returns-in-Err
returns-in-Err c = not_text _ c.in-Err.ensures.cases.0
