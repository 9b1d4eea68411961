use Rattle.std.proofs.Common.{[], ℕ, subst}
use Rattle.file_store.specs.Stores.{DraftHolds, draft_blocks, free_of, store_base}
use Rattle.file_store.specs.Writes.{WritesOnly}
use Rattle.file_store.proofs.BlockWrites.{only_start}
use Rattle.block_files.proofs.Begun.{holds_none}
use Rattle.block_files.proofs.Wider.{handed_among, writes_wider}
use Rattle.block_files.proofs.write.write_content.Goals as goal

pub returns-in-Err-clause-only : goal.returns-in-Err-clause-only
returns-in-Err-clause-only g c = only_start g.D.Disk (store_base c.args.files.now) (free_of c.args.files.now) c.args.disk.now

pub returns-in-Err-store_piece-clause-only : goal.returns-in-Err-store_piece-clause-only
returns-in-Err-store_piece-clause-only g c =
    writes_wider g.D.Disk (store_base c.args.files.now) (draft_blocks c.in-Ok.draft) (free_of c.args.files.now) c.args.disk.now c.store_piece.new.disk
    (handed_among (free_of c.args.files.now) (draft_blocks c.in-Ok.draft) (free_of c.begin.new.self) c.in-Ok.ensures.takes)
    (subst (λ (b : ℕ). WritesOnly g.D.Disk b (draft_blocks c.in-Ok.draft) c.args.disk.now c.store_piece.new.disk) c.begin.ensures.range.base c.store_piece.ensures.only)

pub returns-clause-held : goal.returns-clause-held
returns-clause-held g c =
    subst (λ (b : ℕ). DraftHolds b c.store_piece.new.draft c.args.bytes.now (g.D.Disk.seen c.store_piece.new.disk)) c.begin.ensures.range.base
    (c.in_default.ensures.held [] (holds_none (store_base c.begin.new.self) c.in-Ok.draft (g.D.Disk.seen c.args.disk.now) c.in-Ok.ensures.empty))

pub returns-clause-only : goal.returns-clause-only
returns-clause-only g c =
    writes_wider g.D.Disk (store_base c.args.files.now) (draft_blocks c.in-Ok.draft) (free_of c.args.files.now) c.args.disk.now c.store_piece.new.disk
    (handed_among (free_of c.args.files.now) (draft_blocks c.in-Ok.draft) (free_of c.begin.new.self) c.in-Ok.ensures.takes)
    (subst (λ (b : ℕ). WritesOnly g.D.Disk b (draft_blocks c.in-Ok.draft) c.args.disk.now c.store_piece.new.disk) c.begin.ensures.range.base c.store_piece.ensures.only)
