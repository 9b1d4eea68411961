use Rattle.std.proofs.Common.{◌≡◌, List, All, map, sym, subst, ◌∙◌}
use Rattle.folders.specs.Files.{Puts}
use Rattle.manifests.specs.declared.facts.FileEntry.{FileEntry}
use Rattle.publish_plan.specs.declared.options.PlannedFile.{PlannedFile}
use Rattle.publisher.specs.declared.fault.PublishFault.TheVariants.{ReadFault}
use Rattle.publisher.specs.Faults.{IsWriting}
use Rattle.publisher.specs.Publication.{copy_in, published_files}
use Rattle.publisher.specs.Puts.{AreNew, PutsEach, PutsSome}
use Rattle.publisher.specs.Readings.{IsSourced, ReadsChange, ReadsEach}
use Rattle.publisher.proofs.FaultCounts.{counted_after}
use Rattle.publisher.proofs.Outcomes.{err_handed_on, err_then, never_reading, on_err, on_error, then_ok, then_err}
use Rattle.publisher.proofs.NewNames.{files_new, manifest_new}
use Rattle.publisher.proofs.SecondReads.{part_without_manifests, part_without_deployment, all_of_release}
use Rattle.publisher.proofs.TwoReadings.{writing_reads}
use Rattle.publisher.proofs.published.write_release.Goals as goal

pub copy_files-requires-clause-new : goal.copy_files-requires-clause-new
copy_files-requires-clause-new g c = λ told.
    let old = g.F.Folder.held c.args.folder.now in
    subst (λ (fs : List PlannedFile). AreNew fs old) (sym c.as_slice.ensures) (files_new c.args.plan.now old (c.requires.new told))

pub put_new-requires : goal.put_new-requires
put_new-requires g c = λ told.
    let old = g.F.Folder.held c.args.folder.now in
    let mid = g.F.Folder.held c.copy_files.new.folder in
    let plan = c.args.plan.now in
    let files : PutsEach (map (copy_in old) plan.files) old mid = subst (λ (fs : List PlannedFile). PutsEach (map (copy_in old) fs) old mid) c.as_slice.ensures (c.in_ok-copy_files.ensures.put told) in
    manifest_new plan old mid (c.requires.new told) files

pub returns-in_err-copy_files-clause-reading : goal.returns-in_err-copy_files-clause-reading
returns-in_err-copy_files-clause-reading g c = λ told.
    let old = g.F.Folder.held c.args.folder.now in
    let new = g.F.Folder.held c.copy_files.new.folder in
    let some : PutsSome (map (copy_in old) c.args.plan.now.files) old new = subst (λ (fs : List PlannedFile). PutsSome (map (copy_in old) fs) old new) c.as_slice.ensures (c.in_err-copy_files.ensures.part told) in
    on_error c.from_residual.result ReadFault (PutsSome (map (copy_in old) c.args.plan.now.files) old new) some

pub returns-in_err-put_new-clause-reading : goal.returns-in_err-put_new-clause-reading
returns-in_err-put_new-clause-reading g c = λ told.
    let old = g.F.Folder.held c.args.folder.now in
    let new = g.F.Folder.held c.put_new.new.folder in
    let some = PutsSome (map (copy_in old) c.args.plan.now.files) old new in
    let e = c.in_err-put_new.field-0.0 in
    err_handed_on c.from_residual-in_err-put_new.result (λ f. f ≡ ReadFault → some) e c.from_residual-in_err-put_new.ensures (never_reading e some c.in_err-put_new.ensures.writing)

pub returns-clause-reading : goal.returns-clause-reading
returns-clause-reading g c = λ told.
    let old = g.F.Folder.held c.args.folder.now in
    let new = g.F.Folder.held c.put_file.new.folder in
    let some = PutsSome (map (copy_in old) c.args.plan.now.files) old new in
    err_then c.put_file.result IsWriting (λ e. e ≡ ReadFault → some) (λ e. never_reading e some) c.put_file.ensures.writing

pub returns-in_err-put_new-clause-part : goal.returns-in_err-put_new-clause-part
returns-in_err-put_new-clause-part g c = λ told.
    let old = g.F.Folder.held c.args.folder.now in
    let mid = g.F.Folder.held c.copy_files.new.folder in
    let new = g.F.Folder.held c.put_new.new.folder in
    let plan = c.args.plan.now in
    let release = c.args.release.now in
    let files : PutsEach (map (copy_in old) plan.files) old mid = subst (λ (fs : List PlannedFile). PutsEach (map (copy_in old) fs) old mid) c.as_slice.ensures (c.in_ok-copy_files.ensures.put told) in
    let same : new ≡ mid = c.in_err-put_new.ensures.kept told in
    on_err c.from_residual-in_err-put_new.result (PutsSome (published_files old plan release) old new)
    (part_without_manifests old new plan release (subst (PutsEach (map (copy_in old) plan.files) old) (sym same) files))

pub returns-clause-put : goal.returns-clause-put
returns-clause-put g c = λ told.
    let old = g.F.Folder.held c.args.folder.now in
    let mid = g.F.Folder.held c.copy_files.new.folder in
    let later = g.F.Folder.held c.put_new.new.folder in
    let new = g.F.Folder.held c.put_file.new.folder in
    let plan = c.args.plan.now in
    let release = c.args.release.now in
    let files : PutsEach (map (copy_in old) plan.files) old mid = subst (λ (fs : List PlannedFile). PutsEach (map (copy_in old) fs) old mid) c.as_slice.ensures (c.in_ok-copy_files.ensures.put told) in
    let manifest : Puts mid later plan.manifest release.application = subst (Puts mid later plan.manifest) c.as_slice-3.ensures (c.in_ok-put_new.ensures.put told) in
    then_ok c.put_file.result (Puts later new plan.deployment c.as_slice-4.result.now) (PutsEach (published_files old plan release) old new)
    (λ put. all_of_release old mid later new plan release files manifest (subst (Puts later new plan.deployment) c.as_slice-4.ensures put)) (c.put_file.ensures.put told)

pub returns-clause-part : goal.returns-clause-part
returns-clause-part g c = λ told.
    let old = g.F.Folder.held c.args.folder.now in
    let mid = g.F.Folder.held c.copy_files.new.folder in
    let later = g.F.Folder.held c.put_new.new.folder in
    let new = g.F.Folder.held c.put_file.new.folder in
    let plan = c.args.plan.now in
    let release = c.args.release.now in
    let files : PutsEach (map (copy_in old) plan.files) old mid = subst (λ (fs : List PlannedFile). PutsEach (map (copy_in old) fs) old mid) c.as_slice.ensures (c.in_ok-copy_files.ensures.put told) in
    let manifest : Puts mid later plan.manifest release.application = subst (Puts mid later plan.manifest) c.as_slice-3.ensures (c.in_ok-put_new.ensures.put told) in
    let part : PutsSome (published_files old plan release) old later = part_without_deployment old mid later plan release files manifest in
    then_err c.put_file.result (new ≡ later) (PutsSome (published_files old plan release) old new)
    (λ same. subst (PutsSome (published_files old plan release) old) (sym same) part) (c.put_file.ensures.kept told)

pub returns-clause-counted : goal.returns-clause-counted
returns-clause-counted g c =
    counted_after (g.F.Folder.count c.args.folder.now) (g.F.Folder.count c.put_new.new.folder) (g.F.Folder.count c.put_file.new.folder) c.put_file.result
    (c.in_ok-put_new.ensures.counted.quiet ∙ c.in_ok-copy_files.ensures.counted.quiet) c.put_file.ensures.counted

pub returns-in_err-copy_files-clause-readings : goal.returns-in_err-copy_files-clause-readings
returns-in_err-copy_files-clause-readings g c = λ records from start sourced read.
    let first = g.F.Folder.answers c.args.folder.now in
    let new = g.F.Folder.answers c.copy_files.new.folder in
    let files = c.args.plan.now.files in
    let entries = c.args.release.now.entries in
    let below : All (IsSourced from) c.as_slice.result.now = subst (All (IsSourced from)) (sym c.as_slice.ensures) sourced in
    let one : ReadsEach c.as_slice.result.now entries start first = subst (λ (fs : List PlannedFile). ReadsEach fs entries start first) (sym c.as_slice.ensures) read in
    let each : ReadsEach c.as_slice.result.now c.as_slice-2.result.now start first = subst (λ (es : List FileEntry). ReadsEach c.as_slice.result.now es start first) (sym c.as_slice-2.ensures) one in
    let e = c.in_err-copy_files.field-0.0 in
    err_handed_on c.from_residual.result (ReadsChange from start new) e c.from_residual.ensures (c.in_err-copy_files.ensures.readings records from start below each)

pub returns-in_err-put_new-clause-readings : goal.returns-in_err-put_new-clause-readings
returns-in_err-put_new-clause-readings g c = λ records from start sourced read.
    let new = g.F.Folder.answers c.put_new.new.folder in
    let e = c.in_err-put_new.field-0.0 in
    err_handed_on c.from_residual-in_err-put_new.result (ReadsChange from start new) e c.from_residual-in_err-put_new.ensures (writing_reads from start new e c.in_err-put_new.ensures.writing)

pub returns-clause-readings : goal.returns-clause-readings
returns-clause-readings g c = λ records from start sourced read.
    let new = g.F.Folder.answers c.put_file.new.folder in
    err_then c.put_file.result IsWriting (ReadsChange from start new) (writing_reads from start new) c.put_file.ensures.writing
