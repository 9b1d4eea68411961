use Rattle.store_state.proofs.CheckedApps.{shows_skipped}
use Rattle.store_state.proofs.laws.skips_show_the_entry.Goals as goal

pub returns : goal.returns
returns c = shows_skipped
