use Rattle.std.proofs.Common.{◌≡◌, Err, List, inl, refl, sym, subst}
use Rattle.file_store.specs.declared.draft.Draft.{Draft}
use Rattle.line_drafts.proofs.Works.{works_as}
use Rattle.store_state.specs.Tables.{table_shape}
use Rattle.install_plan.specs.declared.lack.Lack.TheVariants as by
use Rattle.install_plan.specs.FetchedFiles.{IsStopped}
use Rattle.install_plan.specs.Lacks.{lack_reply}
use Rattle.install_plan.proofs.Ended.{free_none, is_reply, leaves_disk, rests_there, writes_free}
use Rattle.install_plan.proofs.InstallFiles.{works_from}
use Rattle.install_plan.proofs.PlanEnds.{drafted_for, fault_from, fault_to, install_cost, install_ended, install_room, lacks_for}
use Rattle.install_plan.proofs.Outcome.{held_application}
use Rattle.install_plan.proofs.Planned.{apart}
use Rattle.install_plan.proofs.PlanFetched.{old_measured, plan_places}
use Rattle.install_plan.proofs.install.prepare.Goals as goal

pub returns-in-Err-clause-prepared : goal.returns-in-Err-clause-prepared
returns-in-Err-clause-prepared g c = (c.in-Err.ensures.refused, refl)

pub returns-in-Err-clause-writes : goal.returns-in-Err-clause-writes
returns-in-Err-clause-writes g c = (0, inl refl, free_none g.D.Disk c.args.files.now c.args.disk.now _ is_reply)

pub returns-in-Err-clause-leaves : goal.returns-in-Err-clause-leaves
returns-in-Err-clause-leaves g c = rests_there g.D.Disk c.args.disk.now c.in-Err.reply

pub draft_install-made-requires-clause-places : goal.draft_install-made-requires-clause-places
draft_install-made-requires-clause-places g c = plan_places c.args.room c.args.state.now c.args.url.now c.hear.new.heard.texts c.in-Ok.plan c.in-Ok.ensures.plan.is

pub draft_install-made-requires-clause-wanted : goal.draft_install-made-requires-clause-wanted
draft_install-made-requires-clause-wanted g c = c.in-Ok.ensures.plan.is.places

pub draft_install-made-requires-clause-apart : goal.draft_install-made-requires-clause-apart
draft_install-made-requires-clause-apart g c =
    apart c.in-Ok.plan.deployment.identity.key c.args.state.now c.are_tables.ensures c.in-Ok.plan.application (held_application c.args.room c.args.state.now c.args.url.now c.hear.new.heard.texts c.in-Ok.plan c.in-Ok.ensures.plan.is)

pub draft_install-made-requires-clause-measured : goal.draft_install-made-requires-clause-measured
draft_install-made-requires-clause-measured g c = old_measured c.args.state.now c.in-Ok.plan c.requires.measured

pub draft_install-made-requires-clause-empty : goal.draft_install-made-requires-clause-empty
draft_install-made-requires-clause-empty g c = c.new-drafts.ensures.none

pub draft_install-made-requires-clause-used : goal.draft_install-made-requires-clause-used
draft_install-made-requires-clause-used g c = c.new-drafts.ensures.used c.args.files.now

pub draft_install-made-requires-clause-room : goal.draft_install-made-requires-clause-room
draft_install-made-requires-clause-room g c =
    install_room c.args.room c.args.state.now c.args.url.now c.hear.new.heard.texts c.in-Ok.plan c.in-Ok.ensures.plan.is c.args.files.now c.held_are_used.ensures c.are_tables.ensures c.requires.measured c.requires.blocks

pub returns-clause-prepared : goal.returns-clause-prepared
returns-clause-prepared g c =
    let state = g.L.Links.links in
    let tables = c.args.state.now in
    let plan = c.in-Ok.plan in
    let b = state c.hear.new.links in
    let d = state c.draft_install-made.new.links in
    let files = c.args.files.now in
    let drafts = c.draft_install-made.new.drafts in
    let disk = c.args.disk.now in
    let done = c.draft_install-made.new.disk in
    let made = c.draft_install-made.result in
    let drafted = c.drafted_of-drafted.result in
    let clauses = c.drafted_of-drafted.ensures in
    let works = c.draft_install-made.ensures.works in
    install_ended g.D.Disk c.args.room tables c.args.url.now c.hear.new.heard.texts (state c.args.links.now) b d plan c.in-Ok.ensures.plan c.args.now files c.draft_install-made.new.files c.finish.new.files drafts disk done c.finish.new.disk
    drafted c.finish.result works.1
    (works_as g.D.Disk (drafted ≡ Err by.DiskFault) (fault_to g.D.Disk tables plan b d c.args.now files drafts disk done made drafted clauses.change clauses.well clauses.lacks) (fault_from g.D.Disk tables plan b d c.args.now files drafts disk done made drafted clauses.change clauses.well clauses.lacks)
    (works_from g.D.Disk c.new-drafts.ensures.none works.4))
    c.finish.ensures.ends c.finish.ensures.seals c.requires.blocks c.requires.measured c.are_tables.ensures c.requires.moment c.shapes_are_shown.ensures c.installs_show_the_view.ensures c.changed_tables_weigh.ensures.as_installed c.migrated_data_weigh.ensures
    (drafted_for g.D.Disk tables plan b d c.args.now files drafts disk done made drafted clauses.change clauses.well clauses.lacks c.draft_install-made.ensures.drafted)
    (lacks_for g.D.Disk tables plan b d c.args.now files drafts disk done made drafted clauses.change clauses.well clauses.lacks (λ lack. IsStopped plan.application.files plan.wanted b d (lack_reply lack)) c.draft_install-made.ensures.stopped)

pub returns-clause-writes : goal.returns-clause-writes
returns-clause-writes g c =
    let state = g.L.Links.links in
    let tables = c.args.state.now in
    let plan = c.in-Ok.plan in
    let b = state c.hear.new.links in
    let d = state c.draft_install-made.new.links in
    let files = c.args.files.now in
    let drafts = c.draft_install-made.new.drafts in
    let disk = c.args.disk.now in
    let done = c.draft_install-made.new.disk in
    let made = c.draft_install-made.result in
    let drafted = c.drafted_of-drafted.result in
    let clauses = c.drafted_of-drafted.ensures in
    let works = c.draft_install-made.ensures.works in (
      works.1,
      install_cost c.args.room tables c.args.url.now c.hear.new.heard.texts plan c.in-Ok.ensures.plan.is (state c.args.links.now) b d c.in-Ok.ensures.plan works.0 works.1 works.2 works.3,
      writes_free g.D.Disk drafts files c.draft_install-made.new.files c.finish.new.files disk done c.finish.new.disk drafted c.finish.result works.1
          (works_as g.D.Disk (drafted ≡ Err by.DiskFault) (fault_to g.D.Disk tables plan b d c.args.now files drafts disk done made drafted clauses.change clauses.well clauses.lacks) (fault_from g.D.Disk tables plan b d c.args.now files drafts disk done made drafted clauses.change clauses.well clauses.lacks)
          (works_from g.D.Disk c.new-drafts.ensures.none works.4))
          c.finish.ensures.ends c.finish.ensures.seals,
    )

pub returns-clause-leaves : goal.returns-clause-leaves
returns-clause-leaves g c =
    let state = g.L.Links.links in
    let plan = c.in-Ok.plan in
    let b = state c.hear.new.links in
    let d = state c.draft_install-made.new.links in
    let clauses = c.drafted_of-drafted.ensures in
    leaves_disk g.D.Disk c.args.disk.now c.finish.new.disk plan.application.files plan.wanted b d
    c.drafted_of-drafted.result c.finish.result c.finish.ensures.ends
    (lacks_for g.D.Disk c.args.state.now plan b d c.args.now c.args.files.now c.draft_install-made.new.drafts c.args.disk.now c.draft_install-made.new.disk c.draft_install-made.result c.drafted_of-drafted.result clauses.change clauses.well clauses.lacks (λ lack. IsStopped plan.application.files plan.wanted b d (lack_reply lack)) c.draft_install-made.ensures.stopped)

pub finish-requires : goal.finish-requires
finish-requires g c = c.draft_install-made.ensures.works.4.used
