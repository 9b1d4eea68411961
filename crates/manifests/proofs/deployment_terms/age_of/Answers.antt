use Rattle.std.proofs.Common.{◌≤◌, arith, refl}
use Rattle.manifest_parts.proofs.Readings.{fails_then}
use Rattle.manifests.specs.Deployments.{age_of}
use Rattle.manifests.proofs.Chains.{then_fails, handed_on}
use Rattle.manifests.proofs.Limits.{number_of_within, age_fits}
use Rattle.manifests.proofs.deployment_terms.age_of.Goals as goal

pub returns-in_err-digits : goal.returns-in_err-digits
unfolding age_of
returns-in_err-digits c = handed_on _ _ _ _ c.from_residual.ensures (fails_then _ _ _ c.in_err-digits.ensures)

pub returns-in_err-age : goal.returns-in_err-age
unfolding age_of
returns-in_err-age c = handed_on _ _ _ _ c.from_residual-in_err-age.ensures (then_fails _ _ _ _ c.in_ok-digits.ensures (fails_then _ _ _ c.in_err-age.ensures))

pub returns-in_err-text : goal.returns-in_err-text
unfolding age_of
returns-in_err-text c =
    handed_on _ _ _ _ c.from_residual-in_err-text.ensures
    (then_fails _ _ _ _ c.in_ok-digits.ensures (then_fails _ _ _ _ c.in_ok-age.ensures (fails_then _ _ _ c.in_err-text.ensures)))

pub returns-in_err-unit : goal.returns-in_err-unit
unfolding age_of
returns-in_err-unit c =
    handed_on _ _ _ _ c.from_residual-in_err-unit.ensures
    (then_fails _ _ _ _ c.in_ok-digits.ensures (then_fails _ _ _ _ c.in_ok-age.ensures
    (then_fails _ _ _ _ c.in_ok-text.ensures (fails_then _ _ _ c.in_err-unit.ensures.exact))))

pub overflow_mul-result : goal.overflow_mul-result
overflow_mul-result c =
    let age : c.in_ok-age.age ≤ 999999999 = number_of_within _ _ _ _ _ c.in_ok-age.ensures in
    let unit : c.in_ok-unit.unit ≤ 604800 = c.in_ok-unit.ensures.at_most_a_week in
    let product = age_fits c.in_ok-age.age c.in_ok-unit.unit age unit in
    omega arith

pub returns : goal.returns
unfolding age_of
returns c = rw c.in_ok-digits.ensures (rw c.in_ok-age.ensures (rw c.in_ok-text.ensures (rw c.in_ok-unit.ensures.exact refl)))
