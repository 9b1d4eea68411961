use Rattle.store_state.proofs.CheckedApps.{place_within}
use Rattle.store_state.proofs.state.StoreState.skip.Goals as goal

pub note-requires : goal.note-requires
note-requires c = place_within c.args.place c.args.self.now.apps c.requires.installed
