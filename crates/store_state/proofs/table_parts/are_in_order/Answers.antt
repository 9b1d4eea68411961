use Rattle.store_state.proofs.FromParts.{order_is}
use Rattle.store_state.proofs.table_parts.are_in_order.Goals as goal

pub returns : goal.returns
returns c =
    order_is c.args.apps.now c.in_ok-keys.keys c.as_slice.result.now c.texts_rise.result
    c.in_ok-keys.ensures c.as_slice.ensures c.texts_rise.ensures
