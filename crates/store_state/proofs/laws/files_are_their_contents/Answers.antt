use Rattle.store_state.proofs.ContentsNamed.{contents_named, files_of_contents}
use Rattle.store_state.proofs.laws.files_are_their_contents.Goals as goal

pub returns-clause-bytes : goal.returns-clause-bytes
returns-clause-bytes c = files_of_contents

pub returns-clause-names : goal.returns-clause-names
returns-clause-names c = contents_named
