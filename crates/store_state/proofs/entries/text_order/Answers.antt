use Rattle.std.proofs.Common.{ℕ, List, sym, ap, ◌∙◌}
use Rattle.std.specs.Ordering.{ordering_reverse}
use Rattle.identity.specs.Key.{key_text}
use Rattle.identity.specs.Printed.{text_cmp}
use Rattle.machine.proofs.EntryOrder.{order}
use Rattle.store_state.proofs.entries.text_order.Goals as goal

-- the one order is the other, turned round
pub returns : goal.returns
returns c =
    let key = key_text c.args.key.now in
    c.reverse.ensures ∙ ap ordering_reverse c.cmp_printed.ensures
    ∙ sym (order.antisymm c.as_bytes.result.now key)
    ∙ ap (λ (text : List ℕ). text_cmp text key) c.as_bytes.ensures.value
