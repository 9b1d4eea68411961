use Rattle.file_store.specs.Stores.{draft_blocks, store_base}
use Rattle.file_store.proofs.BlockWrites.{only_start}
use Rattle.line_drafts.proofs.copy.copy_into.Goals as goal

pub returns-in-Err-clause-only : goal.returns-in-Err-clause-only
returns-in-Err-clause-only g c = only_start g.D.Disk (store_base c.args.files.now) (draft_blocks c.args.draft.now) c.args.disk.now
