use Rattle.store_state.proofs.KeyOrder.{search_is}
use Rattle.store_state.proofs.content_key.has_key.Goals as goal

pub returns : goal.returns
returns c = rw c.is_ok.ensures.value (search_is c.args.keys.now c.requires (record { size = c.args.size; list = c.args.list.now }) c.place_of_key.result c.place_of_key.ensures.range c.place_of_key.ensures.found)
