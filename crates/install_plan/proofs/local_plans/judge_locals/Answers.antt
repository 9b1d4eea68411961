use Rattle.std.proofs.Common.{◌<◌, ℕ, inr, inl, refl, sym, subst}
use Rattle.std.specs.Prelude.{count_by, not}
use Rattle.manifests.specs.Applications.{is_below_pre}
use Rattle.data_migration.specs.declared.plan.LocalPlan.{LocalPlan}
use Rattle.data_migration.specs.Plans.{plan_name}
use Rattle.install_plan.proofs.Planned.{counted_as}
use Rattle.install_plan.proofs.Judged.{not_so}
use Rattle.install_plan.proofs.local_plans.judge_locals.Goals as goal

pub returns-then-are_many : goal.returns-then-are_many
returns-then-are_many c = λ room.
    let same = counted_as c.args.d.now.identity.key c.args.state.now room c.args.a.now.files c.in-Ok.plans c.in-Ok.ensures.plans c.as_slice.result.now c.as_slice.ensures
    (count_by (λ (p : LocalPlan). not (is_below_pre (plan_name p))) c.as_slice.result.now) refl in
    inr (λ old. inl ((subst (λ (n : ℕ). 256 < n) same (c.are_many.ensures.0 c.if-are_many.true), refl), refl))

pub returns : goal.returns
returns c = λ room.
    let same = counted_as c.args.d.now.identity.key c.args.state.now room c.args.a.now.files c.in-Ok.plans c.in-Ok.ensures.plans c.as_slice.result.now c.as_slice.ensures
    (count_by (λ (p : LocalPlan). not (is_below_pre (plan_name p))) c.as_slice.result.now) refl in (
      (λ many. not_so c.are_many.result (256 < count_by (λ (p : LocalPlan). not (is_below_pre (plan_name p))) c.as_slice.result.now) c.are_many.ensures c.if-are_many.false
          (subst (λ (n : ℕ). 256 < n) (sym same) many)),
      tt,
    )
