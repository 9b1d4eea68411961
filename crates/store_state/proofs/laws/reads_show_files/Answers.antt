use Rattle.store_state.proofs.ShownFiles.{files_shown, names_shown}
use Rattle.store_state.proofs.laws.reads_show_files.Goals as goal

pub returns-clause-bytes : goal.returns-clause-bytes
returns-clause-bytes c = files_shown

pub returns-clause-names : goal.returns-clause-names
returns-clause-names c = names_shown
