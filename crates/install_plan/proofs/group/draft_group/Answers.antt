use Rattle.file_store.specs.Stores.{store_base}
use Rattle.line_drafts.proofs.KeptDrafts.{nothing_used}
use Rattle.line_drafts.proofs.Works.{works_as}
use Rattle.install_plan.specs.declared.lack.Lack.TheVariants as by
use Rattle.install_plan.proofs.WantedDrafts.{all_drafted, held_first, memory_behind, sized_first}
use Rattle.install_plan.proofs.FileLacks.{err_by, err_is, no_err, plain_reply}
use Rattle.install_plan.proofs.group.draft_group.Goals as goal

pub fetch_wanted-requires-clause-places : goal.fetch_wanted-requires-clause-places
fetch_wanted-requires-clause-places g c = c.requires.places

pub fetch_wanted-requires-clause-used : goal.fetch_wanted-requires-clause-used
fetch_wanted-requires-clause-used g c =
    nothing_used c.args.files.now c.args.drafts.now c.requires.empty

pub fetch_wanted-requires-clause-room : goal.fetch_wanted-requires-clause-room
fetch_wanted-requires-clause-room g c = c.requires.room

pub returns-in-Err-clause-stopped : goal.returns-in-Err-clause-stopped
returns-in-Err-clause-stopped g c = c.in-Err.ensures.stopped

pub returns-in-Err-clause-works : goal.returns-in-Err-clause-works
returns-in-Err-clause-works g c =
    let works = c.in-Err.ensures.works in (
      works.0,
      works.1,
      works_as g.D.Disk _ (λ is. err_by (err_is c.in-Err.lack by.DiskFault is))
          (λ is. err_by (err_is c.in-Err.lack by.DiskFault is)) works.2,
    )

pub drafted_group-requires-clause-each : goal.drafted_group-requires-clause-each
drafted_group-requires-clause-each g c =
    let got = c.in_default.ensures.fetched in
    all_drafted c.args.drafts.now c.fetch_wanted.new.drafts got.0 c.requires.empty
    c.args.listed.now c.args.wanted.now (g.L.Links.links c.args.links.now)
    (g.L.Links.links c.fetch_wanted.new.links) got.1 got.2

pub drafted_group-requires-clause-within : goal.drafted_group-requires-clause-within
drafted_group-requires-clause-within g c = c.requires.places.within

pub returns-in-Ok-clause-fetched : goal.returns-in-Ok-clause-fetched
returns-in-Ok-clause-fetched g c =
    let got = c.in_default.ensures.fetched in
    let made = c.in-Ok.ensures in (
      got.0,
      got.1,
      sized_first c.args.drafts.now c.fetch_wanted.new.drafts got.0 c.requires.empty got.2,
      held_first c.args.drafts.now c.fetch_wanted.new.drafts got.0 c.requires.empty
          (store_base c.args.files.now) (g.D.Disk.seen c.args.disk.now)
          (g.D.Disk.seen c.fetch_wanted.new.disk) got.3,
      made.change,
      made.replied,
      made.taken,
      made.blocks,
    )

pub returns-in-Ok-clause-works : goal.returns-in-Ok-clause-works
returns-in-Ok-clause-works g c =
    let works = c.in_default.ensures.works in (
      works.0,
      works.1,
      works_as g.D.Disk _ (λ is. absurd (no_err by.DiskFault is))
          (λ is. absurd (no_err by.DiskFault is)) works.2,
    )

pub returns-in-Err-drafted_group-clause-stopped : goal.returns-in-Err-drafted_group-clause-stopped
returns-in-Err-drafted_group-clause-stopped g c =
    let got = c.in_default.ensures.fetched in
    rw c.in-Err-drafted_group.ensures.memory
    (memory_behind c.args.listed.now c.args.wanted.now (g.L.Links.links c.args.links.now)
    (g.L.Links.links c.fetch_wanted.new.links) got.0 got.1)

pub returns-in-Err-drafted_group-clause-works : goal.returns-in-Err-drafted_group-clause-works
returns-in-Err-drafted_group-clause-works g c =
    let works = c.in_default.ensures.works in (
      works.0,
      works.1,
      works_as g.D.Disk _ (λ is. absurd (no_err by.DiskFault is))
          (λ is. absurd (plain_reply c.in-Err-drafted_group.reply
          (err_is (by.Reply c.in-Err-drafted_group.reply) by.DiskFault is))) works.2,
    )
