use Rattle.std.proofs.Common.{◌≤◌, List, length, sym, subst, ℕ}
use Rattle.small_types.specs.Blocks.{count_for}
use Rattle.file_store.specs.Stores.{free_of, store_base}
use Rattle.file_store.proofs.BlockWrites.{only_start}
use Rattle.updater.proofs.PutFiles.{named_none, no_full, synced_done, synced_failed, synced_memory, wrote_failed, wrote_memory}
use Rattle.updater.proofs.put_step.put_file.Goals as goal

pub returns-in-Err-Memory-clause-only : goal.returns-in-Err-Memory-clause-only
returns-in-Err-Memory-clause-only g c =
    only_start g.D.Disk (store_base c.args.files.now) (free_of c.args.files.now) c.args.disk.now

pub returns-in-Err-Memory-clause-spends : goal.returns-in-Err-Memory-clause-spends
returns-in-Err-Memory-clause-spends g c = named_none g.D.Disk _ c.args.bytes.now c.args.disk.now

pub returns-in-Err-Memory-write_content-clause-spends : goal.returns-in-Err-Memory-write_content-clause-spends
returns-in-Err-Memory-write_content-clause-spends g c =
    wrote_memory g.D.Disk _ c.args.bytes.now c.args.disk.now _ c.as_slice-2.result.now c.as_slice-2.ensures
    c.write_content.new.disk c.write_content.result c.write_content.ensures.spends
    c.in-Err-Memory-write_content.field-0 c.in-Err-Memory-write_content.is c.in-Err-Memory-write_content.field-0-is

pub returns-in-Err-DiskFault-clause-spends : goal.returns-in-Err-DiskFault-clause-spends
returns-in-Err-DiskFault-clause-spends g c =
    wrote_failed g.D.Disk _ c.args.bytes.now c.args.disk.now _ c.as_slice-2.result.now c.as_slice-2.ensures
    c.write_content.new.disk c.write_content.result c.write_content.ensures.spends
    c.in-Err-DiskFault.field-0 c.in-Err-DiskFault.is c.in-Err-DiskFault.field-0-is

pub returns-in-Err-clause-spends : goal.returns-in-Err-clause-spends
returns-in-Err-clause-spends g c =
    synced_failed g.D.Disk _ c.args.bytes.now c.args.disk.now _ c.as_slice-2.result.now c.as_slice-2.ensures
    c.write_content.new.disk c.write_content.result c.write_content.ensures.spends
    c.in-Ok-write_content.draft c.in-Ok-write_content.is c.seal.new.disk c.seal.result c.seal.ensures.spends
    c.in-Err.field-0 c.in-Err.is

pub returns-in-Ok-copy-clause-spends : goal.returns-in-Ok-copy-clause-spends
returns-in-Ok-copy-clause-spends g c =
    synced_done g.D.Disk _ c.args.bytes.now c.args.disk.now _ c.as_slice-2.result.now c.as_slice-2.ensures
    c.write_content.new.disk c.write_content.result c.write_content.ensures.spends
    c.in-Ok-write_content.draft c.in-Ok-write_content.is c.seal.new.disk c.seal.result c.seal.ensures.spends
    c.in-Ok-seal.held c.in-Ok-seal.is _

pub returns-in-Err-Memory-copy-clause-spends : goal.returns-in-Err-Memory-copy-clause-spends
returns-in-Err-Memory-copy-clause-spends g c =
    synced_memory g.D.Disk _ c.args.bytes.now c.args.disk.now _ c.as_slice-2.result.now c.as_slice-2.ensures
    c.write_content.new.disk c.write_content.result c.write_content.ensures.spends
    c.in-Ok-write_content.draft c.in-Ok-write_content.is c.seal.new.disk c.seal.result c.seal.ensures.spends
    c.in-Ok-seal.held c.in-Ok-seal.is

pub unreachable-requires : goal.unreachable-requires
unreachable-requires g c =
    no_full c.in-Err-Full.field-0 _ _ c.in-Err-Full.field-0-0 c.in-Err-Full.field-0-1 c.in-Err-Full.field-0-is
    c.in-Err-Full.ensures.full
    (subst (λ (bytes : List ℕ). count_for (length bytes) ≤ length (free_of c.args.files.now)) (sym c.as_slice-2.ensures) c.requires)
