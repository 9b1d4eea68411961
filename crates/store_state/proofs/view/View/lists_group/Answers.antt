use Rattle.store_state.proofs.GrownTables.{listed_is}
use Rattle.store_state.proofs.view.View.lists_group.Goals as goal

pub returns : goal.returns
returns c =
    listed_is c.args.group.now c.args.self.now.application c.as_slice.result.now c.is_listed.result
    c.as_slice.ensures c.is_listed.ensures
