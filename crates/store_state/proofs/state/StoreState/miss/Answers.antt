use Rattle.store_state.proofs.CheckedApps.{current_entry}
use Rattle.store_state.proofs.state.StoreState.miss.Goals as goal

pub note_key-requires : goal.note_key-requires
note_key-requires c = current_entry c.args.key.now c.args.self.now c.requires
