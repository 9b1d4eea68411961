use Rattle.store_state.proofs.LocalsShown.{puts_shown}
use Rattle.store_state.proofs.laws.puts_show_the_file.Goals as goal

pub returns : goal.returns
returns c = puts_shown
