use Rattle.line_drafts.specs.declared.fault.DraftFault.TheVariants.{DiskFault}
use Rattle.install_plan.specs.declared.lack.Lack.TheVariants as by
use Rattle.install_plan.proofs.WantedDrafts.{may_ask}
use Rattle.install_plan.proofs.FileLacks.{by_disk, came, cost_asked, cost_may, err_by, err_is, lacks, no_err, of_disk}
use Rattle.install_plan.specs.Lacks.{lack_reply}
use Rattle.install_plan.proofs.fetch.fetch_one.Goals as goal

pub returns-in-Ok-clause-fetched : goal.returns-in-Ok-clause-fetched
returns-in-Ok-clause-fetched g c =
    let got = c.in-Ok.ensures.fetched in (
      got.0,
      came c.args.entry.now c.args.target.now (g.L.Links.links c.args.links.now)
          (g.L.Links.links c.fetch.new.links) c.fetch.ensures.kept.kept got.0 got.1,
      got.2,
    )

pub returns-in-Ok-clause-works : goal.returns-in-Ok-clause-works
returns-in-Ok-clause-works g c =
    cost_asked c.args.entry.now c.args.target.now (g.L.Links.links c.args.links.now)
    (g.L.Links.links c.fetch.new.links) g.D.Disk c.args.disk.now c.fetch.new.disk _ _
    (λ is. absurd (no_err DiskFault is)) (λ is. absurd (no_err by.DiskFault is))
    c.in-Ok.ensures.works c.in-Ok.ensures.fetched.1.asked

pub returns-in-Err-clause-lack : goal.returns-in-Err-clause-lack
returns-in-Err-clause-lack g c =
    lacks c.args.entry.now c.args.target.now (g.L.Links.links c.args.links.now)
    (g.L.Links.links c.fetch.new.links) c.args.files.now (g.D.Disk.count c.args.disk.now)
    (g.D.Disk.count c.fetch.new.disk) c.fetch.ensures.kept.kept c.in-Err.fault c.lack_of.result
    c.in-Err.ensures.fault c.lack_of.ensures

pub returns-in-Err-clause-works : goal.returns-in-Err-clause-works
returns-in-Err-clause-works g c =
    let lack = lacks c.args.entry.now c.args.target.now (g.L.Links.links c.args.links.now)
    (g.L.Links.links c.fetch.new.links) c.args.files.now (g.D.Disk.count c.args.disk.now)
    (g.D.Disk.count c.fetch.new.disk) c.fetch.ensures.kept.kept c.in-Err.fault c.lack_of.result
    c.in-Err.ensures.fault c.lack_of.ensures in
    cost_may c.args.entry.now c.args.target.now (g.L.Links.links c.args.links.now)
    (g.L.Links.links c.fetch.new.links) g.D.Disk c.args.disk.now c.fetch.new.disk _ _
    (λ is. err_by (by_disk c.in-Err.fault c.lack_of.result c.lack_of.ensures
    (err_is c.in-Err.fault DiskFault is)))
    (λ is. err_by (of_disk c.in-Err.fault c.lack_of.result c.lack_of.ensures
    (err_is c.lack_of.result by.DiskFault is)))
    c.in-Err.ensures.works c.fetch.ensures.idle
    (may_ask c.args.entry.now c.args.target.now (g.L.Links.links c.args.links.now)
    (g.L.Links.links c.fetch.new.links) (lack_reply c.lack_of.result) lack)
