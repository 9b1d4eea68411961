use Rattle.std.proofs.Common.{Contains, arith, refl}
use Rattle.machine.specs.Views.{ContentKey}
use Rattle.store_state.proofs.TestLoops.{all_ended, all_more, all_refuted}
use Rattle.store_state.proofs.brought_contents.is_only.Goals as goal

pub returns-then-not-is_among : goal.returns-then-not-is_among
returns-then-not-is_among c = (λ no. absurd cc, λ all. absurd (all_refuted (λ (key : ContentKey). Contains c.args.standing.now key) c.args.brought.now c.loop-key.key-index c.key-item.result c.key-item.is c.loop-key-test.true (λ there. absurd (grind (arith, c.is_among.ensures.1 there))) all))

pub loop-key-preserved : goal.loop-key-preserved
loop-key-preserved c = all_more (λ (key : ContentKey). Contains c.args.standing.now key) c.args.brought.now c.loop-key.key-index c.key-item.result c.key-item.is c.loop-key-test.true (c.is_among.ensures.0 c.if-not-is_among.false) c.loop-key.invariant

pub returns : goal.returns
returns c = (λ ended. all_ended (λ (key : ContentKey). Contains c.args.standing.now key) c.args.brought.now c.loop-key.key-index c.loop-key-test.false c.loop-key.invariant, λ all. refl)
