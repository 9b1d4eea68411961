use Rattle.std.proofs.Common.{◌≡◌, List, sym, subst}
use Rattle.folders.specs.declared.folder.Held.{Held}
use Rattle.folders.specs.Files.{IsNames}
use Rattle.folders.proofs.SortedNames.{one_list}
use Rattle.publisher.proofs.FaultCounts.{counted_after}
use Rattle.publisher.specs.Readings.{ReadsChange}
use Rattle.publisher.proofs.Outcomes.{err_handed_on, err_then}
use Rattle.publisher.proofs.Promises.{listed_so, unlisted}
use Rattle.publisher.proofs.TwoReadings.{listing_reads, reads_since}
use Rattle.publisher.proofs.published.publish_fit.Goals as goal

pub returns-in_err-names-clause-told : goal.returns-in_err-names-clause-told
returns-in_err-names-clause-told g c = λ told names are.
    unlisted c.args.options.now names (g.F.Folder.held c.args.folder.now) (g.F.Folder.held c.list_names.new.folder) c.from_residual.result c.in_err-names.field-0.0 c.from_residual.ensures c.in_err-names.ensures.reading (c.list_names.ensures.kept told)

pub publish_names-requires-clause-names : goal.publish_names-requires-clause-names
publish_names-requires-clause-names g c = λ told.
    subst (λ (h : List Held). IsNames h c.as_slice.result.now) (sym (c.in_ok-names.ensures.kept told))
    (subst (IsNames (g.F.Folder.held c.args.folder.now)) (sym c.as_slice.ensures.value) (c.in_ok-names.ensures.names told))

pub returns-clause-told : goal.returns-clause-told
returns-clause-told g c = λ told names are.
    let old = g.F.Folder.held c.args.folder.now in
    let found : IsNames old c.as_slice.result.now = subst (IsNames old) (sym c.as_slice.ensures.value) (c.in_ok-names.ensures.names told) in
    let same : c.as_slice.result.now ≡ names = one_list old c.as_slice.result.now names (g.met.F.Folder.names_differ c.args.folder.now told) found are in
    listed_so c.args.options.now c.as_slice.result.now names old (g.F.Folder.held c.list_names.new.folder) (g.F.Folder.held c.publish_names.new.folder) c.publish_names.result same (c.in_ok-names.ensures.kept told) (c.publish_names.ensures.told told)

pub returns-clause-counted : goal.returns-clause-counted
returns-clause-counted g c =
    counted_after (g.F.Folder.count c.args.folder.now) (g.F.Folder.count c.list_names.new.folder) (g.F.Folder.count c.publish_names.new.folder) c.publish_names.result c.in_ok-names.ensures.counted.quiet c.publish_names.ensures.counted

pub returns-in_err-names-clause-readings : goal.returns-in_err-names-clause-readings
returns-in_err-names-clause-readings g c = λ records.
    let from = c.args.options.now.from in
    let old = g.F.Folder.answers c.args.folder.now in
    let new = g.F.Folder.answers c.list_names.new.folder in
    let e = c.in_err-names.field-0.0 in
    err_handed_on c.from_residual.result (ReadsChange from old new) e c.from_residual.ensures (listing_reads from old new e c.in_err-names.ensures.reading)

pub returns-clause-readings : goal.returns-clause-readings
returns-clause-readings g c = λ records.
    let from = c.args.options.now.from in
    let old = g.F.Folder.answers c.args.folder.now in
    let mid = g.F.Folder.answers c.list_names.new.folder in
    let new = g.F.Folder.answers c.publish_names.new.folder in
    err_then c.publish_names.result (ReadsChange from mid new) (ReadsChange from old new) (λ e. reads_since from old mid new e (c.in_ok-names.ensures.noted records)) (c.publish_names.ensures.readings records)
