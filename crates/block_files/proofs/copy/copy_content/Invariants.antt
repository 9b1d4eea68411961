use Rattle.std.proofs.Common.{◌≡◌, ◌-◌}
use Rattle.file_store.specs.Stores.{draft_blocks, store_base}
use Rattle.block_files.proofs.Copies.{Copied}
use Rattle.block_files.proofs.copy.copy_content.Given as goal

abbrev pub invariant-loop-done : goal.invariant-loop-done
invariant-loop-done g l = record {
  store : l.files ≡ l.initial.files;
  copied : Copied g.D.Disk (store_base l.initial.files) l.blocks (draft_blocks l.initial.draft) l.size l.initial.disk l.done l.draft l.disk;
}

abbrev pub decreases-loop-done : goal.decreases-loop-done
decreases-loop-done g l = l.size - l.done
