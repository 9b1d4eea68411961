use Rattle.std.proofs.Common.{arith, refl}
use Rattle.small_types.specs.Short.{IsShort}
use Rattle.store_state.proofs.TestLoops.{all_ended, all_more, all_refuted}
use Rattle.table_check.proofs.parts.are_short.Goals as goal

pub returns-then-not-is_short : goal.returns-then-not-is_short
returns-then-not-is_short c = (
  λ no. absurd cc,
  λ all. absurd
      (all_refuted (IsShort c.args.limit) c.args.texts.now c.loop-text.text-index c.text-item.result c.text-item.is
      c.loop-text-test.true (λ short. absurd (grind (arith, c.is_short.ensures.1 short))) all),
)

pub loop-text-preserved : goal.loop-text-preserved
loop-text-preserved c =
    all_more (IsShort c.args.limit) c.args.texts.now c.loop-text.text-index c.text-item.result c.text-item.is
    c.loop-text-test.true (c.is_short.ensures.0 c.if-not-is_short.false) c.loop-text.invariant

pub returns : goal.returns
returns c = (
  λ ended. all_ended (IsShort c.args.limit) c.args.texts.now c.loop-text.text-index c.loop-text-test.false
      c.loop-text.invariant,
  λ all. refl,
)
