use Rattle.std.proofs.Common.{◌≡◌, ◌<◌, ◌≤◌, length, arith, ap, sym, ◌∙◌}
use Rattle.publisher.specs.Faults.{IsDevice}
use Rattle.publisher.specs.Publication.{bytes_in, entry_in, entry_of}
use Rattle.publisher.specs.Readings.{ReadsChange}
use Rattle.publisher.proofs.EntryReads.{entries_long, entry_at, entry_is}
use Rattle.publisher.proofs.Outcomes.{err_handed_on}
use Rattle.publisher.proofs.NewNames.{still_new}
use Rattle.publisher.proofs.SecondReads.{bytes_kept, copy_more}
use Rattle.publisher.proofs.TwoReadings.{puts_more, shows_change}
use Rattle.publisher.proofs.copies.copy_files.Goals as goal

pub bounds-entries-i : goal.bounds-entries-i
bounds-entries-i g c = let long = entries_long c.args.files.now c.args.entries.now c.requires.entries in omega arith

pub copy_file-requires-clause-entry : goal.copy_file-requires-clause-entry
copy_file-requires-clause-entry g c =
    entry_is c.args.files.now c.args.entries.now c.loop-i.i c.index-files-i.result c.index-entries-i.result c.requires.entries (omega arith) c.index-files-i.is c.index-entries-i.is

pub copy_file-requires-clause-new : goal.copy_file-requires-clause-new
copy_file-requires-clause-new g c = λ told.
    still_new (g.F.Folder.held c.args.folder.now) (g.F.Folder.held c.loop-i.folder) c.args.files.now c.loop-i.i c.index-files-i.result (omega arith) c.index-files-i.is (c.requires.new told) (c.loop-i.invariant.puts told)

pub returns-in_err-copy_file-clause-device : goal.returns-in_err-copy_file-clause-device
returns-in_err-copy_file-clause-device g c = λ told are.
    let old = g.F.Folder.held c.args.folder.now in
    let mid = g.F.Folder.held c.loop-i.folder in
    let file = c.index-files-i.result in
    let within : c.loop-i.i < length c.args.files.now = omega arith in
    let same : bytes_in mid file ≡ bytes_in old file = bytes_kept old mid c.requires.apart.folder c.args.files.now c.loop-i.i file within c.index-files-i.is c.requires.apart.apart (c.loop-i.invariant.puts told) in
    let entry : c.index-entries-i.result ≡ entry_in mid file =
    entry_at old c.args.files.now c.args.entries.now c.loop-i.i file c.index-entries-i.result within c.index-files-i.is c.index-entries-i.is are ∙ ap (entry_of file) (sym same) in
    err_handed_on c.from_residual.result IsDevice c.in_err-copy_file.field-0.0 c.from_residual.ensures (c.in_err-copy_file.ensures.device told entry)

pub loop-i-preserved : goal.loop-i-preserved
loop-i-preserved g c = record {
  puts = λ told.
      let old = g.F.Folder.held c.args.folder.now in
      let mid = g.F.Folder.held c.loop-i.folder in
      let file = c.index-files-i.result in
      let within : c.loop-i.i < length c.args.files.now = omega arith in
      let same : bytes_in mid file ≡ bytes_in old file = bytes_kept old mid c.requires.apart.folder c.args.files.now c.loop-i.i file within c.index-files-i.is c.requires.apart.apart (c.loop-i.invariant.puts told) in
      copy_more old mid (g.F.Folder.held c.copy_file.new.folder) c.args.files.now c.loop-i.i file within c.index-files-i.is (c.loop-i.invariant.puts told) same (c.in_ok-copy_file.ensures.put told);
  below = λ records folder apart.
      puts_more folder c.args.files.now c.loop-i.i c.index-files-i.result (g.F.Folder.answers c.args.folder.now) (g.F.Folder.answers c.loop-i.folder) (g.F.Folder.answers c.copy_file.new.folder) (omega arith) c.index-files-i.is apart
      (c.loop-i.invariant.below records folder apart) (c.in_ok-copy_file.ensures.noted records);
  later = let go : g.F.Folder.count c.loop-i.folder ≤ g.F.Folder.count c.copy_file.new.folder = c.copy_file.ensures.counted.later in let so_far : g.F.Folder.count c.args.folder.now ≤ g.F.Folder.count c.loop-i.folder = c.loop-i.invariant.later in omega arith;
  still = c.in_ok-copy_file.ensures.counted.quiet ∙ c.loop-i.invariant.still;
}

pub returns-in_err-copy_file-clause-readings : goal.returns-in_err-copy_file-clause-readings
returns-in_err-copy_file-clause-readings g c = λ records from start sourced read.
    let first = g.F.Folder.answers c.args.folder.now in
    let mid = g.F.Folder.answers c.loop-i.folder in
    let new = g.F.Folder.answers c.copy_file.new.folder in
    let apart = c.requires.apart in
    let e = c.in_err-copy_file.field-0.0 in
    err_handed_on c.from_residual.result (ReadsChange from start new) e c.from_residual.ensures
    (shows_change from apart.folder start first mid new c.args.files.now c.args.entries.now c.loop-i.i c.index-files-i.result c.index-entries-i.result e (omega arith) c.index-files-i.is c.index-entries-i.is
    apart.apart sourced c.requires.entries read (c.loop-i.invariant.below records apart.folder apart.apart) (c.in_err-copy_file.ensures.other records))
