use Rattle.std.proofs.Common.{◌≡◌, List, Ok, length, map, refl, ap, subst, sym, ◌∙◌}
use Rattle.manifests.specs.declared.facts.FileEntry.{FileEntry}
use Rattle.publish_plan.specs.declared.options.PlannedFile.{PlannedFile}
use Rattle.publisher.specs.Changes.{IsLate}
use Rattle.publisher.specs.Entries.{AreEntries}
use Rattle.publisher.specs.Faults.{fault_of}
use Rattle.publisher.specs.Outcome.{Fails, LeavesInput}
use Rattle.publisher.specs.Publication.{copy_in, publish_of, read_entries}
use Rattle.publisher.specs.Puts.{PutsSome}
use Rattle.publisher.specs.Readings.{ReadsChange, ReadsEach}
use Rattle.publisher.proofs.FaultCounts.{counted_still, manifest_quiet, plan_quiet}
use Rattle.publisher.proofs.Outcomes.{err_handed_on}
use Rattle.publisher.proofs.Known as publish
use Rattle.publisher.proofs.PlanRefusals.{plan_late}
use Rattle.publisher.proofs.Promises.{stopped, untouched}
use Rattle.publisher.proofs.PublishSteps.{plan_refused, entries_refused, manifests_refused, refuses_from, device_refuses}
use Rattle.publisher.proofs.ReleaseFacts.{entries_fit, files_fit}
use Rattle.publisher.proofs.TwoReadings.{first_late, first_reads, manifest_reads, plan_reads}
use Rattle.publisher.proofs.published.publish_names.Goals as goal

pub returns-in_err-plan-clause-told : goal.returns-in_err-plan-clause-told
returns-in_err-plan-clause-told g c = λ told.
    let o = c.args.options.now in
    let names = c.args.names.now in
    let old = g.F.Folder.held c.args.folder.now in
    let f = c.in_err-plan.field-0.0 in
    untouched o names old old c.from_residual.result (fault_of f) c.from_residual.ensures
    (refuses_from (fault_of f) (publish_of o names old) (plan_refused o names old f c.requires.fit c.in_err-plan.ensures)) refl

pub returns-in_err-plan-clause-late : goal.returns-in_err-plan-clause-late
returns-in_err-plan-clause-late g c =
    err_handed_on c.from_residual.result IsLate (fault_of c.in_err-plan.field-0.0) c.from_residual.ensures (plan_late c.args.options.now c.args.names.now c.in_err-plan.field-0.0 c.in_err-plan.ensures)

pub returns-in_err-plan-clause-counted : goal.returns-in_err-plan-clause-counted
returns-in_err-plan-clause-counted g c =
    let count = g.F.Folder.count c.args.folder.now in
    counted_still c.from_residual.result count count (fault_of c.in_err-plan.field-0.0) c.from_residual.ensures (plan_quiet c.in_err-plan.field-0.0) refl

pub returns-in_err-entries-clause-told : goal.returns-in_err-entries-clause-told
returns-in_err-entries-clause-told g c = λ told.
    let o = c.args.options.now in
    let names = c.args.names.now in
    let old = g.F.Folder.held c.args.folder.now in
    let plan = c.in_ok-plan.plan in
    let e = c.in_err-entries.field-0.0 in
    let failed : Fails e (read_entries old plan.files) = subst (λ (fs : List PlannedFile). Fails e (read_entries old fs)) c.as_slice.ensures (c.in_err-entries.ensures.told told) in
    untouched o names old (g.F.Folder.held c.read_entries.new.folder) c.from_residual-in_err-entries.result e c.from_residual-in_err-entries.ensures
    (refuses_from e (publish_of o names old) (entries_refused o names old plan e c.requires.fit c.in_ok-plan.ensures failed)) (c.read_entries.ensures.kept told)

pub manifests_of-requires-clause-files : goal.manifests_of-requires-clause-files
manifests_of-requires-clause-files g c =
    let good = publish.good c.args.options.now c.args.names.now c.in_ok-plan.plan c.requires.options c.requires.fit c.requires.ascending c.in_ok-plan.ensures in
    files_fit c.in_ok-plan.plan.files c.in_ok-entries.entries good.few good.few_local good.differ (subst (λ (fs : List PlannedFile). AreEntries fs c.in_ok-entries.entries) c.as_slice.ensures c.in_ok-entries.ensures.entries)

pub manifests_of-requires-clause-each : goal.manifests_of-requires-clause-each
manifests_of-requires-clause-each g c =
    let good = publish.good c.args.options.now c.args.names.now c.in_ok-plan.plan c.requires.options c.requires.fit c.requires.ascending c.in_ok-plan.ensures in
    entries_fit c.in_ok-plan.plan.files c.in_ok-entries.entries good.fit (subst (λ (fs : List PlannedFile). AreEntries fs c.in_ok-entries.entries) c.as_slice.ensures c.in_ok-entries.ensures.entries)

pub returns-in_err-release-clause-told : goal.returns-in_err-release-clause-told
returns-in_err-release-clause-told g c = λ told.
    let o = c.args.options.now in
    let names = c.args.names.now in
    let old = g.F.Folder.held c.args.folder.now in
    let plan = c.in_ok-plan.plan in
    let e = c.in_err-release.field-0.0 in
    let read : read_entries old plan.files ≡ Ok c.in_ok-entries.entries = subst (λ (fs : List PlannedFile). read_entries old fs ≡ Ok c.in_ok-entries.entries) c.as_slice.ensures (c.in_ok-entries.ensures.told told) in
    untouched o names old (g.F.Folder.held c.read_entries.new.folder) c.from_residual-in_err-release.result e c.from_residual-in_err-release.ensures
    (refuses_from e (publish_of o names old) (manifests_refused o names old plan c.in_ok-entries.entries e c.requires.fit c.in_ok-plan.ensures read c.in_err-release.ensures.exact)) (c.in_ok-entries.ensures.kept told)

pub returns-in_err-release-clause-counted : goal.returns-in_err-release-clause-counted
returns-in_err-release-clause-counted g c =
    counted_still c.from_residual-in_err-release.result (g.F.Folder.count c.args.folder.now) (g.F.Folder.count c.read_entries.new.folder) c.in_err-release.field-0.0 c.from_residual-in_err-release.ensures
    (manifest_quiet c.in_err-release.field-0.0 c.in_err-release.ensures.fault) c.in_ok-entries.ensures.counted.quiet

pub write_release-requires-clause-apart : goal.write_release-requires-clause-apart
write_release-requires-clause-apart g c =
    let good = publish.good c.args.options.now c.args.names.now c.in_ok-plan.plan c.requires.options c.requires.fit c.requires.ascending c.in_ok-plan.ensures in
    good.apart

pub write_release-requires-clause-new : goal.write_release-requires-clause-new
write_release-requires-clause-new g c = λ told.
    publish.new c.args.options.now c.args.names.now c.in_ok-plan.plan (g.F.Folder.held c.args.folder.now) (g.F.Folder.held c.read_entries.new.folder) c.requires.fit c.requires.ascending c.in_ok-plan.ensures (c.requires.names told) (c.in_ok-entries.ensures.kept told)

pub returns-in_err-write_release-clause-told : goal.returns-in_err-write_release-clause-told
returns-in_err-write_release-clause-told g c = λ told.
    let o = c.args.options.now in
    let names = c.args.names.now in
    let old = g.F.Folder.held c.args.folder.now in
    let mid = g.F.Folder.held c.read_entries.new.folder in
    let new = g.F.Folder.held c.write_release.new.folder in
    let plan = c.in_ok-plan.plan in
    let entries = c.in_ok-entries.entries in
    let release = c.in_ok-release.release in
    let e = c.in_err-write_release.field-0.0 in
    let kept = c.in_ok-entries.ensures.kept told in
    let part = c.in_err-write_release.ensures.part told in
    let k = publish.known o names old plan c.as_slice.result.now entries release c.requires.options c.requires.fit c.requires.ascending c.in_ok-plan.ensures c.as_slice.ensures (c.in_ok-entries.ensures.told told) c.in_ok-release.ensures.exact in
    let are = publish.still_entries o names old mid new plan entries release k kept c.in_ok-release.ensures.entries in
    let left : PutsSome (map (copy_in mid) plan.files) mid new → LeavesInput (publish_of o names old) old new = publish.reading o names old mid new plan entries release k kept in
    stopped o names old new c.from_residual-in_err-write_release.result e c.from_residual-in_err-write_release.ensures
    (device_refuses e (publish_of o names old) _ k.written (c.in_err-write_release.ensures.device told are))
    (publish.left o names old mid new plan entries release k kept part)
    (λ is. left (c.in_err-write_release.ensures.reading told is))
    (publish.unpublished o names old mid new plan entries release k kept part)
    (publish.still_standing o names old mid new plan entries release k kept (c.requires.names told) part)

pub returns-clause-told : goal.returns-clause-told
returns-clause-told g c = λ told.
    let o = c.args.options.now in
    let names = c.args.names.now in
    let old = g.F.Folder.held c.args.folder.now in
    let mid = g.F.Folder.held c.read_entries.new.folder in
    let new = g.F.Folder.held c.write_release.new.folder in
    let plan = c.in_ok-plan.plan in
    let entries = c.in_ok-entries.entries in
    let release = c.in_ok-release.release in
    let kept = c.in_ok-entries.ensures.kept told in
    let put = c.in_ok-write_release.ensures.put told in
    let good = publish.good o names plan c.requires.options c.requires.fit c.requires.ascending c.in_ok-plan.ensures in
    let k = publish.known o names old plan c.as_slice.result.now entries release c.requires.options c.requires.fit c.requires.ascending c.in_ok-plan.ensures c.as_slice.ensures (c.in_ok-entries.ensures.told told) c.in_ok-release.ensures.exact in
    record {
      published = publish.publishes o names old mid new plan entries release k kept put;
      files = ap length c.as_slice-2.ensures ∙ good.count;
      refused = tt;
      left = tt;
      reading = tt;
      unpublished = tt;
      standing = publish.standing o names old mid new plan entries release k kept (c.requires.names told) put;
    }

pub returns-clause-answer : goal.returns-clause-answer
returns-clause-answer g c = record { key = c.key_of.ensures ∙ c.in_ok-release.ensures.key; version = refl }

pub returns-in_err-plan-clause-readings : goal.returns-in_err-plan-clause-readings
returns-in_err-plan-clause-readings g c = λ records.
    let from = c.args.options.now.from in
    let old = g.F.Folder.answers c.args.folder.now in
    let f = c.in_err-plan.field-0.0 in
    err_handed_on c.from_residual.result (ReadsChange from old old) (fault_of f) c.from_residual.ensures (plan_reads from old old f)

pub returns-in_err-entries-clause-readings : goal.returns-in_err-entries-clause-readings
returns-in_err-entries-clause-readings g c = λ records.
    let from = c.args.options.now.from in
    let old = g.F.Folder.answers c.args.folder.now in
    let new = g.F.Folder.answers c.read_entries.new.folder in
    let e = c.in_err-entries.field-0.0 in
    err_handed_on c.from_residual-in_err-entries.result (ReadsChange from old new) e c.from_residual-in_err-entries.ensures (first_reads from old new e c.in_err-entries.ensures.fault)

pub returns-in_err-entries-clause-late : goal.returns-in_err-entries-clause-late
returns-in_err-entries-clause-late g c =
    let e = c.in_err-entries.field-0.0 in
    err_handed_on c.from_residual-in_err-entries.result IsLate e c.from_residual-in_err-entries.ensures (first_late e c.in_err-entries.ensures.fault)

pub returns-in_err-release-clause-readings : goal.returns-in_err-release-clause-readings
returns-in_err-release-clause-readings g c = λ records.
    let from = c.args.options.now.from in
    let old = g.F.Folder.answers c.args.folder.now in
    let new = g.F.Folder.answers c.read_entries.new.folder in
    let e = c.in_err-release.field-0.0 in
    err_handed_on c.from_residual-in_err-release.result (ReadsChange from old new) e c.from_residual-in_err-release.ensures (manifest_reads from old new e c.in_err-release.ensures.fault)

pub returns-in_err-write_release-clause-readings : goal.returns-in_err-write_release-clause-readings
returns-in_err-write_release-clause-readings g c = λ records.
    let from = c.args.options.now.from in
    let old = g.F.Folder.answers c.args.folder.now in
    let mid = g.F.Folder.answers c.read_entries.new.folder in
    let new = g.F.Folder.answers c.write_release.new.folder in
    let plan = c.in_ok-plan.plan in
    let release = c.in_ok-release.release in
    let good = publish.good c.args.options.now c.args.names.now plan c.requires.options c.requires.fit c.requires.ascending c.in_ok-plan.ensures in
    let read : ReadsEach plan.files c.in_ok-entries.entries old mid = subst (λ (fs : List PlannedFile). ReadsEach fs c.in_ok-entries.entries old mid) c.as_slice.ensures (c.in_ok-entries.ensures.noted records) in
    let listed : ReadsEach plan.files release.entries old mid = subst (λ (es : List FileEntry). ReadsEach plan.files es old mid) (sym c.in_ok-release.ensures.entries) read in
    let e = c.in_err-write_release.field-0.0 in
    err_handed_on c.from_residual-in_err-write_release.result (ReadsChange from old new) e c.from_residual-in_err-write_release.ensures (c.in_err-write_release.ensures.readings records from old good.sourced listed)
