use Rattle.std.proofs.Common.{◌≡◌, List, ℕ, arith, refl}
use Rattle.std.specs.declared.cmp.Ordering.TheVariants.{Less}
use Rattle.identity.specs.Printed.{text_cmp}
use Rattle.machine.proofs.EntryOrder.{order}
use Rattle.store_state.proofs.Orders.{pairs_refuted, pairs_rise}
use Rattle.store_state.proofs.table_parts.texts_rise.Goals as goal

pub returns-then-not-is_text_below : goal.returns-then-not-is_text_below
returns-then-not-is_text_below c = (
  λ no. absurd cc,
  λ pairs. absurd
      (pairs_refuted (λ (a b : List ℕ). text_cmp a b ≡ Less) c.args.texts.now c.loop-place.place
      c.index-texts-place.result c.index-texts-place-in-loop-place.result (omega arith)
      c.loop-place-test.true c.index-texts-place.is c.index-texts-place-in-loop-place.is
      (λ less. grind (arith, c.is_text_below.ensures.1 less)) pairs),
)

pub returns : goal.returns
returns c = (
  λ done. pairs_rise text_cmp order c.args.texts.now
      (λ k d within. c.loop-place.invariant k d (omega arith)),
  λ pairs. refl,
)
