use Rattle.std.proofs.Common.{◌≡◌, arith, refl}
use Rattle.std.specs.Ordering.{on}
use Rattle.std.specs.declared.cmp.Ordering.TheVariants.{Less}
use Rattle.std.proofs.lemmas.Cmp.{on_total}
use Rattle.identity.specs.Printed.{text_cmp}
use Rattle.machine.proofs.EntryOrder.{order}
use Rattle.store_state.specs.declared.view.LocalFile.{LocalFile}
use Rattle.store_state.proofs.Orders.{pairs_refuted, pairs_rise}
use Rattle.store_state.proofs.fields.are_in_order.Goals as goal

pub returns-then-not-is_before : goal.returns-then-not-is_before
returns-then-not-is_before c = (
  λ no. absurd cc,
  λ pairs. absurd (pairs_refuted (λ (f g : LocalFile). text_cmp f.name g.name ≡ Less) c.args.files.now c.loop-place.place c.index-files-place.result c.index-files-place-in-loop-place.result (omega arith) c.loop-place-test.true c.index-files-place.is c.index-files-place-in-loop-place.is (λ before. grind (arith, c.is_before.ensures.1 before)) pairs),
)

pub returns : goal.returns
returns c = (λ yes. pairs_rise (on (λ (file : LocalFile). file.name) text_cmp) (on_total (λ (file : LocalFile). file.name) order) c.args.files.now (λ k d within. c.loop-place.invariant k d (omega arith)), λ pairs. refl)
