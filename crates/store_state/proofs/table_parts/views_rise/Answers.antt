use Rattle.std.proofs.Common.{◌≡◌, arith, refl}
use Rattle.std.specs.declared.cmp.Ordering.TheVariants.{Less}
use Rattle.std.specs.Ordering.{nat_cmp, on}
use Rattle.store_state.specs.declared.view.View.{View}
use Rattle.std.proofs.lemmas.Cmp.{nat_cmp_total, on_total}
use Rattle.store_state.proofs.Orders.{pairs_refuted, pairs_rise}
use Rattle.store_state.proofs.table_parts.views_rise.Goals as goal

pub returns-then-not-is_view_before : goal.returns-then-not-is_view_before
returns-then-not-is_view_before c = (
  λ no. absurd cc,
  λ pairs. absurd
      (pairs_refuted (λ (a b : View). nat_cmp a.number b.number ≡ Less) c.args.views.now c.loop-place.place
      c.index-views-place.result c.index-views-place-in-loop-place.result (omega arith)
      c.loop-place-test.true c.index-views-place.is c.index-views-place-in-loop-place.is
      (λ less. grind (arith, c.is_view_before.ensures.1 less)) pairs),
)

pub returns : goal.returns
returns c = (
  λ done. pairs_rise (on (λ (view : View). view.number) nat_cmp) (on_total (λ (view : View). view.number) nat_cmp_total) c.args.views.now
      (λ k d within. c.loop-place.invariant k d (omega arith)),
  λ pairs. refl,
)
