use Rattle.store_state.proofs.LocalsShown.{local_names_shown, locals_shown}
use Rattle.store_state.proofs.laws.locals_show_files.Goals as goal

pub returns-clause-bytes : goal.returns-clause-bytes
returns-clause-bytes c = locals_shown

pub returns-clause-names : goal.returns-clause-names
returns-clause-names c = local_names_shown
