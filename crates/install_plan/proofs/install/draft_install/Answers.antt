use Rattle.std.proofs.Common.{◌≡◌, ◌∙◌, ◌+◌, ◌≤◌, List, [], ap, drop, length, subst, sym, arith, refl, All, true}
use Rattle.std.specs.Prelude.{count_by, sum_by}
use Rattle.small_types.specs.Blocks.{count_for}
use Rattle.line_drafts.proofs.Works.{works_as, works_same}
use Rattle.store_state.specs.declared.view.LocalFile.{LocalFile}
use Rattle.data_migration.specs.declared.plan.LocalPlan.{LocalPlan}
use Rattle.install_plan.specs.declared.lack.Lack.TheVariants as by
use Rattle.install_plan.specs.Changes.{old_locals}
use Rattle.install_plan.specs.InstallDrafts.{drafted_locals}
use Rattle.install_plan.specs.Parts.{IsThere, copied_locals, is_copy, made_locals}
use Rattle.install_plan.proofs.InstallFiles.{none_asked, none_written, two_as}
use Rattle.install_plan.proofs.InstallEnds.{copies_room, drafted_by, drafts_contents, drafts_each, drafts_there, has_files, written}
use Rattle.install_plan.proofs.FileLacks.{err_by, err_is, no_err}
use Rattle.install_plan.proofs.Sources.{copies_there}
use Rattle.install_plan.proofs.install.draft_install.Goals as goal

pub returns-in-Err-clause-stopped : goal.returns-in-Err-clause-stopped
returns-in-Err-clause-stopped g c =
    none_asked g.D.Disk c.args.plan.now.application.files c.args.plan.now.wanted (g.L.Links.links c.args.links.now) c.in-Err.reply c.in-Err.ensures.memory

pub returns-in-Err-clause-works : goal.returns-in-Err-clause-works
returns-in-Err-clause-works g c = (
  0,
  0,
  none_written g.D.Disk c.args.plan.now.application.files c.args.plan.now.wanted (g.L.Links.links c.args.links.now),
  omega arith,
  works_same g.D.Disk c.args.drafts.now c.args.files.now c.args.disk.now _ (λ is. absurd (let no = is in cc)) c.requires.used,
)

pub draft_files-requires-clause-there : goal.draft_files-requires-clause-there
draft_files-requires-clause-there g c =
    let plan = c.args.plan.now in
    two_as (λ (old : List LocalFile) (plans : List LocalPlan). All (λ (p : LocalPlan). is_copy p ≡ true → IsThere old [] p) plans) c.old_locals-old.result.now (old_locals c.args.state.now plan) c.as_slice-plans.result.now c.in-Ok.plans (sym c.old_locals-old.ensures) (sym c.as_slice-plans.ensures)
    (copies_there (old_locals c.args.state.now plan) plan.application.files c.in-Ok.plans c.in-Ok.ensures.plans.sources)

pub draft_files-requires-clause-room : goal.draft_files-requires-clause-room
draft_files-requires-clause-room g c =
    let plan = c.args.plan.now in
    let copies = copies_room c.args.state.now plan c.requires.apart c.in-Ok.plans c.in-Ok.ensures.plans in
    let same = two_as (λ (old : List LocalFile) (plans : List LocalPlan). sum_by (λ (f : LocalFile). count_for f.length) (copied_locals (old_locals c.args.state.now plan) c.in-Ok.plans) ≡ sum_by (λ (f : LocalFile). count_for f.length) (copied_locals old plans)) c.old_locals-old.result.now (old_locals c.args.state.now plan) c.as_slice-plans.result.now c.in-Ok.plans (sym c.old_locals-old.ensures) (sym c.as_slice-plans.ensures) refl in
    let room = c.requires.room in
    omega (arith, room, copies, same)

pub returns-in-Err-draft_files-clause-works : goal.returns-in-Err-draft_files-clause-works
returns-in-Err-draft_files-clause-works g c =
    let plan = c.args.plan.now in
    let works = c.in-Err-draft_files.ensures.works in (
      works.0,
      works.1,
      works.2,
      written c.args.state.now plan c.requires.apart c.in-Ok.plans c.in-Ok.ensures.plans c.old_locals-old.result.now c.as_slice-plans.result.now c.old_locals-old.ensures c.as_slice-plans.ensures works.0 works.1 works.3,
      works_as g.D.Disk _ (λ is. err_by (err_is c.in-Err-draft_files.lack by.DiskFault is)) (λ is. err_by (err_is c.in-Err-draft_files.lack by.DiskFault is)) works.4,
    )

pub made_of-requires-clause-contents : goal.made_of-requires-clause-contents
made_of-requires-clause-contents g c =
    let plan = c.args.plan.now in
    let state = g.L.Links.links in
    drafts_contents g.D.Disk c.args.state.now plan (state c.args.links.now) (state c.draft_files.new.links) c.args.files.now c.draft_files.new.drafts c.args.disk.now c.draft_files.new.disk c.in-Ok.plans c.in-Ok.ensures.plans
    (drafted_by g.D.Disk c.args.state.now plan (state c.args.links.now) (state c.draft_files.new.links) c.args.files.now c.draft_files.new.drafts c.args.disk.now c.draft_files.new.disk c.in-Ok.plans c.old_locals-old.result.now c.as_slice-plans.result.now c.old_locals-old.ensures c.as_slice-plans.ensures c.in_default.ensures.drafted)
    c.requires.wanted

pub made_of-requires-clause-there : goal.made_of-requires-clause-there
made_of-requires-clause-there g c =
    let plan = c.args.plan.now in
    let state = g.L.Links.links in
    subst (λ (ps : List LocalPlan). All (IsThere (old_locals c.args.state.now plan) (drafted_locals plan c.draft_files.new.drafts)) ps) (sym c.as_slice-plans.ensures)
    (drafts_there g.D.Disk c.args.state.now plan (state c.args.links.now) (state c.draft_files.new.links) c.args.files.now c.draft_files.new.drafts c.args.disk.now c.draft_files.new.disk c.in-Ok.plans c.in-Ok.ensures.plans
    (drafted_by g.D.Disk c.args.state.now plan (state c.args.links.now) (state c.draft_files.new.links) c.args.files.now c.draft_files.new.drafts c.args.disk.now c.draft_files.new.disk c.in-Ok.plans c.old_locals-old.result.now c.as_slice-plans.result.now c.old_locals-old.ensures c.as_slice-plans.ensures c.in_default.ensures.drafted)
    c.requires.wanted)

pub made_of-requires-clause-each : goal.made_of-requires-clause-each
made_of-requires-clause-each g c =
    let plan = c.args.plan.now in
    let state = g.L.Links.links in
    drafts_each g.D.Disk c.args.state.now plan (state c.args.links.now) (state c.draft_files.new.links) c.args.files.now c.draft_files.new.drafts c.args.disk.now c.draft_files.new.disk c.in-Ok.plans c.in-Ok.ensures.plans
    (drafted_by g.D.Disk c.args.state.now plan (state c.args.links.now) (state c.draft_files.new.links) c.args.files.now c.draft_files.new.drafts c.args.disk.now c.draft_files.new.disk c.in-Ok.plans c.old_locals-old.result.now c.as_slice-plans.result.now c.old_locals-old.ensures c.as_slice-plans.ensures c.in_default.ensures.drafted)
    ∙ ap (λ (ps : List LocalPlan). length plan.wanted + count_by is_copy ps) (sym c.as_slice-plans.ensures)

pub returns-in-Ok-made_of-clause-drafted : goal.returns-in-Ok-made_of-clause-drafted
returns-in-Ok-made_of-clause-drafted g c =
    let plan = c.args.plan.now in
    let state = g.L.Links.links in
    let files = c.in-Ok-made_of.made.files in
    has_files g.D.Disk c.args.state.now plan (state c.args.links.now) (state c.draft_files.new.links) c.args.files.now c.draft_files.new.drafts c.args.disk.now c.draft_files.new.disk c.in-Ok.plans c.in-Ok.ensures.plans
    (drafted_by g.D.Disk c.args.state.now plan (state c.args.links.now) (state c.draft_files.new.links) c.args.files.now c.draft_files.new.drafts c.args.disk.now c.draft_files.new.disk c.in-Ok.plans c.old_locals-old.result.now c.as_slice-plans.result.now c.old_locals-old.ensures c.as_slice-plans.ensures c.in_default.ensures.drafted)
    files.placed.locals files.programs files.placed.taken files.placed.unused c.in-Ok-made_of.made.reply c.in-Ok-made_of.ensures.contents
    (c.in-Ok-made_of.ensures.made ∙ ap (made_locals (old_locals c.args.state.now plan) (drafted_locals plan c.draft_files.new.drafts) (drop (length plan.wanted) c.draft_files.new.drafts)) c.as_slice-plans.ensures)
    c.in-Ok-made_of.ensures.taken c.in-Ok-made_of.ensures.blocks c.in-Ok-made_of.ensures.replied

pub returns-in-Ok-made_of-clause-works : goal.returns-in-Ok-made_of-clause-works
returns-in-Ok-made_of-clause-works g c =
    let plan = c.args.plan.now in
    let works = c.in_default.ensures.works in (
      works.0,
      works.1,
      works.2,
      written c.args.state.now plan c.requires.apart c.in-Ok.plans c.in-Ok.ensures.plans c.old_locals-old.result.now c.as_slice-plans.result.now c.old_locals-old.ensures c.as_slice-plans.ensures works.0 works.1 works.3,
      works_as g.D.Disk _ (λ is. absurd (no_err by.DiskFault is)) (λ is. absurd (no_err by.DiskFault is)) works.4,
    )

pub returns-clause-works : goal.returns-clause-works
returns-clause-works g c =
    let plan = c.args.plan.now in
    let works = c.in_default.ensures.works in (
      works.0,
      works.1,
      works.2,
      written c.args.state.now plan c.requires.apart c.in-Ok.plans c.in-Ok.ensures.plans c.old_locals-old.result.now c.as_slice-plans.result.now c.old_locals-old.ensures c.as_slice-plans.ensures works.0 works.1 works.3,
      works_as g.D.Disk _ (λ is. absurd (no_err by.DiskFault is)) (λ is. absurd (let no = is in cc)) works.4,
    )
