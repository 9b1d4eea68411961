use Rattle.std.proofs.Common.{◌≡◌, ◌∙◌, ◌+◌, List, [], ap, subst, sym, arith}
use Rattle.std.specs.Prelude.{sum_by}
use Rattle.file_store.specs.Stores.{store_base}
use Rattle.file_store.specs.declared.draft.Draft.{Draft}
use Rattle.line_drafts.specs.Held.{AreHeld}
use Rattle.line_drafts.proofs.Works.{works_then}
use Rattle.manifests.specs.declared.facts.FileEntry.{FileEntry}
use Rattle.store_state.specs.declared.view.LocalFile.{LocalFile}
use Rattle.install_plan.specs.declared.lack.Lack.TheVariants as by
use Rattle.install_plan.specs.declared.plan.WantedFile.{WantedFile}
use Rattle.install_plan.specs.Drafted.{AreSized}
use Rattle.install_plan.specs.FetchedFiles.{HasFetched, WritesAsked, blocks_needed}
use Rattle.install_plan.specs.Parts.{copied_locals}
use Rattle.install_plan.proofs.InstallFiles.{has_drafted, two_as, works_from}
use Rattle.install_plan.proofs.FileLacks.{no_err}
use Rattle.install_plan.proofs.install.draft_files.Goals as goal

pub returns-in-Err-clause-works : goal.returns-in-Err-clause-works
returns-in-Err-clause-works g c =
    let state = g.L.Links.links in
    let works = c.in-Err.ensures.works in (
      works.0,
      works.0,
      two_as (λ (ls : List FileEntry) (ws : List WantedFile). WritesAsked ls ws (state c.args.links.now) (state c.fetch_wanted.new.links) works.0) c.args.plan.now.application.files c.as_slice-listed.result.now c.args.plan.now.wanted c.as_slice-wanted.result.now c.as_slice-listed.ensures c.as_slice-wanted.ensures works.1,
      omega arith,
      works.2,
    )

pub copy_locals-requires-clause-room : goal.copy_locals-requires-clause-room
copy_locals-requires-clause-room g c =
    let need : blocks_needed c.as_slice-listed.result.now c.as_slice-wanted.result.now ≡ blocks_needed c.args.plan.now.application.files c.args.plan.now.wanted =
    ap (λ (ls : List FileEntry). blocks_needed ls c.as_slice-wanted.result.now) c.as_slice-listed.ensures ∙ ap (blocks_needed c.args.plan.now.application.files) c.as_slice-wanted.ensures in
    let room = c.requires.room in
    let left = c.in_default.ensures.left in
    omega (arith, room, left, need)

pub returns-in-Ok-clause-drafted : goal.returns-in-Ok-clause-drafted
returns-in-Ok-clause-drafted g c =
    let state = g.L.Links.links in
    let fetched = c.in_default.ensures.fetched in
    let works = c.in_default.ensures.works in
    let from_none = works_from g.D.Disk c.requires.empty works.2 in
    has_drafted g.D.Disk c.args.plan.now.application.files c.args.plan.now.wanted c.args.old.now c.args.plans.now (state c.args.links.now) (state c.fetch_wanted.new.links) c.args.files.now c.fetch_wanted.new.files c.copy_locals.new.files
    c.fetch_wanted.new.drafts c.copy_locals.new.drafts c.args.disk.now c.fetch_wanted.new.disk c.copy_locals.new.disk fetched.0
    (two_as (λ (ls : List FileEntry) (ws : List WantedFile). HasFetched ls ws (state c.args.links.now) (state c.fetch_wanted.new.links) fetched.0) c.args.plan.now.application.files c.as_slice-listed.result.now c.args.plan.now.wanted c.as_slice-wanted.result.now c.as_slice-listed.ensures c.as_slice-wanted.ensures fetched.1)
    works.0 _ _ _ from_none
    (fetched.2 [] (subst (λ (ds : List Draft). AreSized ds []) (sym c.requires.empty) tt))
    (fetched.3 [] (subst (λ (ds : List Draft). AreHeld (store_base c.args.files.now) ds [] (g.D.Disk.seen c.args.disk.now)) (sym c.requires.empty) tt))
    c.requires.measured c.in-Ok.ensures.works c.in-Ok.ensures.added c.in-Ok.ensures.held

pub returns-in-Ok-clause-works : goal.returns-in-Ok-clause-works
returns-in-Ok-clause-works g c =
    let state = g.L.Links.links in
    let works = c.in_default.ensures.works in (
      works.0,
      works.0 + sum_by (λ (file : LocalFile). file.length) (copied_locals c.args.old.now c.args.plans.now),
      two_as (λ (ls : List FileEntry) (ws : List WantedFile). WritesAsked ls ws (state c.args.links.now) (state c.fetch_wanted.new.links) works.0) c.args.plan.now.application.files c.as_slice-listed.result.now c.args.plan.now.wanted c.as_slice-wanted.result.now c.as_slice-listed.ensures c.as_slice-wanted.ensures works.1,
      omega arith,
      works_then g.D.Disk (no_err by.DiskFault) works.2 c.in-Ok.ensures.works,
    )

pub returns-in-Err-copy_locals-clause-works : goal.returns-in-Err-copy_locals-clause-works
returns-in-Err-copy_locals-clause-works g c =
    let state = g.L.Links.links in
    let works = c.in_default.ensures.works in (
      works.0,
      works.0 + sum_by (λ (file : LocalFile). file.length) (copied_locals c.args.old.now c.args.plans.now),
      two_as (λ (ls : List FileEntry) (ws : List WantedFile). WritesAsked ls ws (state c.args.links.now) (state c.fetch_wanted.new.links) works.0) c.args.plan.now.application.files c.as_slice-listed.result.now c.args.plan.now.wanted c.as_slice-wanted.result.now c.as_slice-listed.ensures c.as_slice-wanted.ensures works.1,
      omega arith,
      works_then g.D.Disk (no_err by.DiskFault) works.2 c.in-Err-copy_locals.ensures.works,
    )
