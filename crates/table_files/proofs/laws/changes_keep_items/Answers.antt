use Rattle.table_files.proofs.ChangeItems.{items_kept}
use Rattle.table_files.proofs.laws.changes_keep_items.Goals as goal

pub returns : goal.returns
returns c = items_kept
