use Rattle.std.proofs.Common.{◌≢◌, arith, refl}
use Rattle.machine.specs.Views.{ContentKey}
use Rattle.store_state.specs.ContentKeys.{content_key_cmp}
use Rattle.store_state.proofs.Orders.{pairs_refuted, pairs_rise}
use Rattle.store_state.proofs.KeyOrder.{differ_rising, neighbours_rise, content_key_total}
use Rattle.store_state.proofs.brought_contents.are_distinct.Goals as goal

pub returns-then-not-is_below : goal.returns-then-not-is_below
returns-then-not-is_below c = (
  λ no. absurd cc,
  λ pairs. absurd (pairs_refuted (λ (a b : ContentKey). a ≢ b) c.args.keys.now c.loop-place.place c.index-keys-place.result c.index-keys-place-in-loop-place.result (omega arith) c.loop-place-test.true c.index-keys-place.is c.index-keys-place-in-loop-place.is
      (λ unlike. absurd (grind (arith, c.is_below.ensures.1 (neighbours_rise c.args.keys.now c.requires c.loop-place.place c.index-keys-place.result c.index-keys-place-in-loop-place.result (omega arith) c.loop-place-test.true c.index-keys-place.is c.index-keys-place-in-loop-place.is unlike)))) pairs),
)

pub returns : goal.returns
returns c = (λ ended. differ_rising c.args.keys.now (pairs_rise content_key_cmp content_key_total c.args.keys.now (λ k d within. c.loop-place.invariant k d (omega arith))), λ pairs. refl)
