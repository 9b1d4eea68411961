-- What differs between two readings of a file.
use Rattle.std.proofs.Common.{◌≡◌, ℕ, List, length, sym, ap, ◌∙◌, arith}
use Rattle.digest_list.specs.Difference.{difference_of}
use Rattle.manifests.specs.declared.facts.FileEntry.{FileEntry}
use Rattle.publish_plan.specs.declared.options.PlannedFile.{PlannedFile}
use Rattle.publisher.specs.declared.fault.PublishFault.{PublishFault}
use Rattle.publisher.specs.declared.fault.PublishFault.TheVariants.{Changed, Memory}
use Rattle.publisher.specs.Changes.{IsChangeOf, IsLate}
use Rattle.publisher.specs.Entries.{IsEntry}
use Rattle.publisher.proofs.EntryReads.{entry_small}

-- the entry is of the bytes that were read first
pub change_late : (file : PlannedFile) (entry : FileEntry) (bytes : List ℕ) (e : PublishFault) → IsEntry file entry → IsChangeOf entry bytes e → IsLate e
change_late file entry bytes (Changed name difference) is change =
    let size : entry.size ≡ length is.bytes = ap (λ (x : FileEntry). x.size) is.is in
    let small = entry_small file entry is in
    record {
      first = is.bytes;
      again = bytes;
      within = omega arith;
      is = ap (λ (x : FileEntry). difference_of x.list x.size bytes) (sym is.is) ∙ change.1;
      distinct = change.2;
    }
change_late file entry bytes Memory is change = tt
change_late file entry bytes e is change = absurd change
