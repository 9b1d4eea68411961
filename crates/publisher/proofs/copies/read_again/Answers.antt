use Rattle.publisher.specs.Readings.{ShowsOther}
use Rattle.publisher.proofs.Outcomes.{err_handed_on}
use Rattle.publisher.proofs.TwoReadings.{change_other, reading_other, reads_as}
use Rattle.publisher.proofs.copies.read_again.Goals as goal

pub returns-in_err-bytes-clause-other : goal.returns-in_err-bytes-clause-other
returns-in_err-bytes-clause-other g c = λ records.
    let old = g.F.Folder.answers c.args.folder.now in
    let new = g.F.Folder.answers c.read_file.new.folder in
    let e = c.in_err-bytes.field-0.0 in
    err_handed_on c.from_residual.result (ShowsOther c.args.file.now c.args.entry.now old new) e c.from_residual.ensures (reading_other c.args.file.now c.args.entry.now old new e c.in_err-bytes.ensures.reading)

pub returns-in_err-compare-clause-other : goal.returns-in_err-compare-clause-other
returns-in_err-compare-clause-other g c = λ records.
    let old = g.F.Folder.answers c.args.folder.now in
    let new = g.F.Folder.answers c.read_file.new.folder in
    let file = c.args.file.now in
    let entry = c.args.entry.now in
    let e = c.in_err-compare.field-0.0 in
    let read = reads_as file.source c.in_ok-bytes.bytes c.as_slice.result.now old new c.as_slice.ensures (c.in_ok-bytes.ensures.noted records) in
    err_handed_on c.from_residual-in_err-compare.result (ShowsOther file entry old new) e c.from_residual-in_err-compare.ensures (change_other file entry old new c.as_slice.result.now e read c.in_err-compare.ensures.change)
