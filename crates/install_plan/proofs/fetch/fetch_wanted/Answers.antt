use Rattle.install_plan.specs.Lacks.{lack_reply}
use Rattle.install_plan.specs.declared.lack.Lack.TheVariants as by
use Rattle.install_plan.proofs.WantedDrafts.{all_so, all_works, fetched_more, fetched_none, has_blocks, stopped_at, stopped_works}
use Rattle.install_plan.proofs.FileLacks.{no_err}
use Rattle.install_plan.proofs.fetch.fetch_wanted.Goals as goal

pub loop-file-init : goal.loop-file-init
loop-file-init g c =
    fetched_none g.D.Disk c.args.listed.now c.args.wanted.now (g.L.Links.links c.args.links.now)
    c.args.drafts.now c.args.files.now c.args.disk.now c.requires.used

pub fetch_one-requires-clause-room : goal.fetch_one-requires-clause-room
fetch_one-requires-clause-room g c =
    let state = g.L.Links.links in
    has_blocks g.D.Disk c.args.listed.now c.args.wanted.now c.requires.places
    (state c.args.links.now) (state c.loop-file.links) (state c.loop-file.links)
    c.args.drafts.now c.loop-file.drafts c.loop-file.drafts c.args.files.now c.loop-file.files
    c.loop-file.files c.args.disk.now c.loop-file.disk c.loop-file.disk c.loop-file.file-index
    c.file-item.result c.index-listed-place.result c.loop-file-test.true c.file-item.is
    c.index-listed-place.is c.loop-file.invariant c.requires.room

pub returns-in-Err-clause-stopped : goal.returns-in-Err-clause-stopped
returns-in-Err-clause-stopped g c =
    let state = g.L.Links.links in
    stopped_at g.D.Disk c.args.listed.now c.args.wanted.now c.requires.places
    (state c.args.links.now) (state c.loop-file.links) (state c.fetch_one.new.links)
    c.args.drafts.now c.loop-file.drafts c.fetch_one.new.drafts c.args.files.now
    c.loop-file.files c.fetch_one.new.files c.args.disk.now c.loop-file.disk
    c.fetch_one.new.disk c.loop-file.file-index c.file-item.result c.index-listed-place.result
    c.loop-file-test.true c.file-item.is c.index-listed-place.is c.loop-file.invariant
    c.fetch_one.ensures.kept c.in-Err.ensures.works.0 _ c.in-Err.ensures.works.1
    c.in-Err.ensures.works.2 (lack_reply c.in-Err.lack) c.in-Err.ensures.lack

pub returns-in-Err-clause-works : goal.returns-in-Err-clause-works
returns-in-Err-clause-works g c =
    let state = g.L.Links.links in
    stopped_works g.D.Disk c.args.listed.now c.args.wanted.now c.requires.places
    (state c.args.links.now) (state c.loop-file.links) (state c.fetch_one.new.links)
    c.args.drafts.now c.loop-file.drafts c.fetch_one.new.drafts c.args.files.now
    c.loop-file.files c.fetch_one.new.files c.args.disk.now c.loop-file.disk
    c.fetch_one.new.disk c.loop-file.file-index c.file-item.result c.index-listed-place.result
    c.loop-file-test.true c.file-item.is c.index-listed-place.is c.loop-file.invariant
    c.fetch_one.ensures.kept c.in-Err.ensures.works.0 _ c.in-Err.ensures.works.1
    c.in-Err.ensures.works.2 (lack_reply c.in-Err.lack) c.in-Err.ensures.lack

pub loop-file-preserved : goal.loop-file-preserved
loop-file-preserved g c =
    let state = g.L.Links.links in
    let got = c.in_default.ensures.fetched in
    fetched_more g.D.Disk c.args.listed.now c.args.wanted.now c.requires.places
    (state c.args.links.now) (state c.loop-file.links) (state c.fetch_one.new.links)
    c.args.drafts.now c.loop-file.drafts c.fetch_one.new.drafts c.args.files.now
    c.loop-file.files c.fetch_one.new.files c.args.disk.now c.loop-file.disk
    c.fetch_one.new.disk c.loop-file.file-index c.file-item.result c.index-listed-place.result
    c.loop-file-test.true c.file-item.is c.index-listed-place.is c.loop-file.invariant
    c.fetch_one.ensures.kept c.in_default.ensures.works.0 _ c.in_default.ensures.works.1
    c.in_default.ensures.works.2 got.0 got.1 got.2 (λ is. absurd (no_err by.DiskFault is))

pub returns-clause-works : goal.returns-clause-works
returns-clause-works g c =
    let state = g.L.Links.links in
    all_works g.D.Disk c.args.listed.now c.args.wanted.now (state c.args.links.now)
    (state c.loop-file.links) c.args.drafts.now c.loop-file.drafts c.args.files.now
    c.loop-file.files c.args.disk.now c.loop-file.disk
    (all_so g.D.Disk c.args.listed.now c.args.wanted.now c.loop-file.file-index
    (state c.args.links.now) (state c.loop-file.links) c.args.drafts.now c.loop-file.drafts
    c.args.files.now c.loop-file.files c.args.disk.now c.loop-file.disk c.loop-file-test.false
    c.loop-file.invariant) _ (λ is. no_err by.DiskFault is)
