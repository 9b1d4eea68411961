use Rattle.std.proofs.Common.{◌≡◌, Some}
use Rattle.std.proofs.Common.{rules}
use Rattle.store_state.specs.Contents.{content_of}
use Rattle.updater.specs.Updater.{tables_of}
use Rattle.demo.specs.Kept.{IsProgramFile}
use Rattle.demo.proofs.Looks.{found_there, looks_nowhere, looks_so}
use Rattle.demo.proofs.ShownViews.{generated}
use Rattle.demo.proofs.kept.is_generated.Goals as goal

pub has_bytes_of-requires : goal.has_bytes_of-requires
has_bytes_of-requires g c =
    let found : Some c.in-Some.content.now ≡ content_of (tables_of c.args.updater.now).contents c.args.entry.now = search rules in
    found_there (tables_of c.args.updater.now).contents c.args.entry.now c.in-Some.content.now found

pub returns-in-Some : goal.returns-in-Some
returns-in-Some g c =
    let found : Some c.in-Some.content.now ≡ content_of (tables_of c.args.updater.now).contents c.args.entry.now = search rules in
    let named : IsProgramFile c.args.file c.args.entry.now = search rules in
    looks_so g.D.Disk c.args.updater.now _ _ c.args.disk.now c.has_bytes_of.new.disk c.has_bytes_of.result
    (λ room image is. generated room image (tables_of c.args.updater.now).contents c.args.seed c.args.version c.args.file
    c.args.entry.now c.in-Some.content.now named found is)
    c.has_bytes_of.ensures

pub returns-in-None : goal.returns-in-None
returns-in-None g c = looks_nowhere g.D.Disk c.args.updater.now _ c.args.disk.now

pub returns-then-not-is_named : goal.returns-then-not-is_named
returns-then-not-is_named g c = looks_nowhere g.D.Disk c.args.updater.now _ c.args.disk.now
