use Rattle.std.proofs.Common.{◌≡◌, ◌+◌, ◌<◌, ◌≤◌, List, [], ◌∷◌, ◌++◌, Ok, length, drop, take, arith, ap, sym, subst, ◌∙◌}
use Rattle.small_types.specs.Outcome.{◌>>=◌}
use Rattle.folders.specs.declared.folder.Held.{Held}
use Rattle.manifests.specs.declared.facts.FileEntry.{FileEntry}
use Rattle.publisher.specs.Entries.{AreEntries}
use Rattle.publisher.specs.Readings.{ReadsEach}
use Rattle.publisher.specs.Publication.{read_entries, read_entry}
use Rattle.publisher.proofs.EntryReads.{AreBehind, behind, behind_all, behind_more, entries_more}
use Rattle.publisher.proofs.TwoReadings.{reads_all, reads_more}
use Rattle.publisher.proofs.entries.read_entries.Goals as goal

pub returns-clause-entries : goal.returns-clause-entries
returns-clause-entries g c =
    subst (AreEntries c.args.files.now) (sym c.from_vec.ensures)
    (behind_all c.args.files.now c.loop-file.file-index c.loop-file.entries.items c.loop-file-test.false c.loop-file.invariant.fit)

pub returns-clause-noted : goal.returns-clause-noted
returns-clause-noted g c = λ records.
    let old = g.F.Folder.answers c.args.folder.now in
    let new = g.F.Folder.answers c.loop-file.folder in
    subst (λ (es : List FileEntry). ReadsEach c.args.files.now es old new) (sym c.from_vec.ensures)
    (reads_all c.args.files.now c.loop-file.file-index c.loop-file.entries.items old new c.loop-file-test.false (c.loop-file.invariant.given records))

pub loop-file-preserved : goal.loop-file-preserved
loop-file-preserved g c =
    let files = c.args.files.now in
    let i = c.loop-file.file-index in
    let made = c.loop-file.entries.items in
    let file = c.file-item.result in
    let entry = c.in_ok-entry.entry in
    let within : i < length files = omega arith in
    let pushed : c.push.new.self.items ≡ made ++ entry ∷ [] = c.in_ok-push.ensures.items in
    record {
      told = λ told.
          let held = g.F.Folder.held c.args.folder.now in
          let read : read_entry held file ≡ Ok entry = subst (λ (h : List Held). read_entry h file ≡ Ok entry) (c.loop-file.invariant.kept told) (c.in_ok-entry.ensures.told told) in
          entries_more held files i made file entry (read_entries held files) within c.file-item.is read (c.loop-file.invariant.told told)
          ∙ ap (λ (es : List FileEntry). read_entries held (drop (i + 1) files) >>= behind es) (sym pushed);
      kept = λ told. c.read_entry.ensures.kept told ∙ c.loop-file.invariant.kept told;
      given = λ records.
          let old = g.F.Folder.answers c.args.folder.now in
          let mid = g.F.Folder.answers c.loop-file.folder in
          let new = g.F.Folder.answers c.read_entry.new.folder in
          subst (λ (es : List FileEntry). ReadsEach (take (i + 1) files) es old new) (sym pushed)
          (reads_more files i made file entry old mid new within c.file-item.is (c.loop-file.invariant.given records) (c.in_ok-entry.ensures.noted records));
      fit = subst (AreBehind files (i + 1)) (sym pushed) (behind_more files i made file entry within c.file-item.is c.in_ok-entry.ensures.entry c.loop-file.invariant.fit);
      later =
          let go : g.F.Folder.count c.loop-file.folder ≤ g.F.Folder.count c.read_entry.new.folder = c.read_entry.ensures.counted.later in
          let so_far : g.F.Folder.count c.args.folder.now ≤ g.F.Folder.count c.loop-file.folder = c.loop-file.invariant.later in
          omega arith;
      still = c.in_ok-entry.ensures.counted.quiet ∙ c.loop-file.invariant.still;
    }
