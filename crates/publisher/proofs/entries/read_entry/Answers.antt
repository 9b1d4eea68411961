use Rattle.std.proofs.Common.{◌≡◌, ℕ, ◌≤◌, List, length, sym, subst, ◌∙◌}
use Rattle.manifests.specs.Applications.{size_limit}
use Rattle.publisher.specs.Publication.{bytes_in, entry_of, read_entry}
use Rattle.publisher.proofs.EntryReads.{read_short}
use Rattle.publisher.proofs.Outcomes.{gives_last, last_ok}
use Rattle.publisher.proofs.TwoReadings.{entry_read_so}
use Rattle.publisher.proofs.entries.read_entry.Goals as goal

pub returns-clause-told : goal.returns-clause-told
returns-clause-told g c = λ told.
    let held = g.F.Folder.held c.args.folder.now in
    let file = c.args.file.now in
    let read = c.as_slice.result.now in
    let bytes : read ≡ bytes_in held file = c.as_slice.ensures ∙ c.in_ok-bytes.ensures.bytes told in
    let short : length read ≤ size_limit file.local = subst (λ (bs : List ℕ). length bs ≤ size_limit file.local) (sym c.as_slice.ensures) c.in_ok-bytes.ensures.within in
    gives_last c.entry_of.result (read_entry held file)
    (last_ok c.entry_of.result (read_entry held file) (entry_of file read) c.entry_of.ensures.entry (read_short held file read bytes short))
    c.entry_of.ensures.memory

pub returns-clause-noted : goal.returns-clause-noted
returns-clause-noted g c = λ records.
    entry_read_so c.args.file.now c.in_ok-bytes.bytes c.as_slice.result.now (g.F.Folder.answers c.args.folder.now) (g.F.Folder.answers c.read_within.new.folder) c.entry_of.result c.as_slice.ensures (c.in_ok-bytes.ensures.noted records) c.entry_of.ensures.entry
