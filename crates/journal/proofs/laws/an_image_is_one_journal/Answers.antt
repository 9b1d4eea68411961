use Rattle.journal.proofs.Blocks.{journal_outside}
use Rattle.journal.proofs.Store.{unique}
use Rattle.journal.proofs.laws.an_image_is_one_journal.Goals as goal

pub returns-clause-one : goal.returns-clause-one
returns-clause-one c = λ image blocks half tables changes other_blocks other_half other_tables other_changes one two.
    unique image blocks other_blocks half other_half tables other_tables changes other_changes one two

pub returns-clause-stays : goal.returns-clause-stays
returns-clause-stays c = journal_outside
