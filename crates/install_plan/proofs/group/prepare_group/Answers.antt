use Rattle.std.proofs.Common.{◌≡◌, ◌∙◌, ◌<◌, ◌≤◌, ◌^◌, ℕ, Err, inl, refl, sym, ap, subst, All, List, length, map}
use Rattle.std.specs.Prelude.{IfErr, IfOk}
use Rattle.std.proofs.lemmas.List.{length-map}
use Rattle.file_store.specs.Stores.{free_of, store_base}
use Rattle.file_store.specs.declared.draft.Draft.{Draft}
use Rattle.line_drafts.specs.Works.{Works}
use Rattle.manifests.specs.declared.facts.FileEntry.{FileEntry}
use Rattle.machine.specs.declared.reply.Reply.TheVariants as says
use Rattle.machine.specs.Groups.{group_files}
use Rattle.fetcher.proofs.Sequence.{all_same}
use Rattle.install_plan.specs.declared.lack.Lack.TheVariants as by
use Rattle.install_plan.specs.declared.plan.WantedFile.{WantedFile}
use Rattle.install_plan.specs.FetchedFiles.{ArePlaces, IsStopped, WritesAsked, blocks_needed}
use Rattle.install_plan.specs.GroupReady.{AreLacking, IsGroupOver, IsUnasked, lacking, ungrouped}
use Rattle.install_plan.specs.Lacks.{lack_reply}
use Rattle.install_plan.proofs.WantedPlaces.{all_within}
use Rattle.install_plan.proofs.Ended.{free_none, is_reply, leaves_disk, rests_there, writes_free}
use Rattle.install_plan.proofs.GroupBlocks.{room_enough}
use Rattle.install_plan.proofs.GroupDrafts.{GroupDrafts, group_ended}
use Rattle.install_plan.proofs.GroupOver.{no_files_over, no_lease_over, stands_over}
use Rattle.install_plan.proofs.GroupFetched.{leased_held}
use Rattle.install_plan.proofs.GroupAsks.{group_cost, not_brought_over}
use Rattle.install_plan.proofs.LeasedRows.{IsLeased, row_is}
use Rattle.install_plan.proofs.UngroupedFiles.{small_files}
use Rattle.install_plan.proofs.group.prepare_group.Goals as goal

pub returns-in_default-clause-prepared : goal.returns-in_default-clause-prepared
returns-in_default-clause-prepared g c =
    let a = g.L.Links.links c.args.links.now in (
      no_lease_over c.args.room c.args.state.now c.args.lease c.args.group.now a a
          (record { kept = all_same a; same = refl }) (sym c.in_default.ensures.row),
      refl,
    )

pub returns-in_default-clause-writes : goal.returns-in_default-clause-writes
returns-in_default-clause-writes g c =
    (0, inl refl, free_none g.D.Disk c.args.files.now c.args.disk.now _ is_reply)

pub returns-in_default-clause-leaves : goal.returns-in_default-clause-leaves
returns-in_default-clause-leaves g c = rests_there g.D.Disk c.args.disk.now says.NoLease

pub returns-in-Err-clause-prepared : goal.returns-in-Err-clause-prepared
returns-in-Err-clause-prepared g c =
    let a = g.L.Links.links c.args.links.now in (
      no_files_over c.args.room c.args.state.now c.args.lease c.args.group.now c.in-Some.view.now
          (record {
            row = sym c.in-Some.ensures.row;
            bare = sym (c.in-Some.ensures.bare c.args.room);
          }) a a c.in-Err.reply (record { kept = all_same a; same = refl }) c.in-Err.ensures.refused,
      refl,
    )

pub returns-in-Err-clause-writes : goal.returns-in-Err-clause-writes
returns-in-Err-clause-writes g c =
    (0, inl refl, free_none g.D.Disk c.args.files.now c.args.disk.now _ is_reply)

pub returns-in-Err-clause-leaves : goal.returns-in-Err-clause-leaves
returns-in-Err-clause-leaves g c = rests_there g.D.Disk c.args.disk.now c.in-Err.reply

pub returns-then-has_group-clause-prepared : goal.returns-then-has_group-clause-prepared
returns-then-has_group-clause-prepared g c =
    let a = g.L.Links.links c.args.links.now in
    let files = group_files c.args.group.now c.in-Some.view.now.application in (
      subst (λ (count : ℕ). IsGroupOver c.args.room c.args.state.now c.args.lease c.args.group.now
          a a (says.Group count))
          (sym (ap length (c.as_slice-listed.ensures ∙ c.in-Ok.ensures.files)
          ∙ length-map files ungrouped))
          (stands_over c.args.room c.args.state.now c.args.lease c.args.group.now
          c.in-Some.view.now
          (record {
            row = sym c.in-Some.ensures.row;
            bare = sym (c.in-Some.ensures.bare c.args.room);
          })
          c.in-Ok.ensures.some a a (record { kept = all_same a; same = refl })
          (sym c.has_group.ensures ∙ c.if-has_group.true)),
      refl,
    )

pub returns-then-has_group-clause-writes : goal.returns-then-has_group-clause-writes
returns-then-has_group-clause-writes g c =
    (0, inl refl, free_none g.D.Disk c.args.files.now c.args.disk.now _ is_reply)

pub returns-then-has_group-clause-leaves : goal.returns-then-has_group-clause-leaves
returns-then-has_group-clause-leaves g c =
    rests_there g.D.Disk c.args.disk.now (says.Group (length c.as_slice-listed.result.now))

pub lacking_files-requires-clause-sized : goal.lacking_files-requires-clause-sized
lacking_files-requires-clause-sized g c =
    let leased : IsLeased c.args.room c.args.state.now c.args.lease c.in-Some.view.now =
    record { row = sym c.in-Some.ensures.row; bare = sym (c.in-Some.ensures.bare c.args.room) } in
    subst (λ (es : List FileEntry). All (λ (entry : FileEntry). entry.size < 2 ^ 61) es)
    (sym (c.as_slice-listed.ensures ∙ c.in-Ok.ensures.files))
    (small_files c.args.group.now c.in-Some.view.now.application
    (leased_held c.args.room c.args.state.now c.args.lease c.in-Some.view.now
    c.are_tables.ensures leased))

pub lacking_files-requires-clause-kept : goal.lacking_files-requires-clause-kept
lacking_files-requires-clause-kept g c =
    let leased : IsLeased c.args.room c.args.state.now c.args.lease c.in-Some.view.now =
    record { row = sym c.in-Some.ensures.row; bare = sym (c.in-Some.ensures.bare c.args.room) } in
    row_is leased

pub lacking_files-requires-clause-files : goal.lacking_files-requires-clause-files
lacking_files-requires-clause-files g c = c.as_slice-listed.ensures ∙ c.in-Ok.ensures.files

pub returns-in-Err-lacking_files-clause-prepared : goal.returns-in-Err-lacking_files-clause-prepared
returns-in-Err-lacking_files-clause-prepared g c =
    let a = g.L.Links.links c.args.links.now in (
      not_brought_over c.args.room c.args.state.now c.args.lease c.args.group.now
          c.in-Some.view.now
          (record {
            row = sym c.in-Some.ensures.row;
            bare = sym (c.in-Some.ensures.bare c.args.room);
          })
          c.in-Ok.ensures.some (sym c.has_group.ensures ∙ c.if-has_group.false) a a
          c.in-Err-lacking_files.reply
          (inl (
            subst (λ (es : List FileEntry). IsUnasked c.args.room c.args.state.now
                c.in-Some.view.now c.args.group.now es c.in-Err-lacking_files.reply)
                (c.as_slice-listed.ensures ∙ c.in-Ok.ensures.files)
                c.in-Err-lacking_files.ensures.unasked,
            record { kept = all_same a; same = refl },
          )),
      refl,
    )

pub returns-in-Err-lacking_files-clause-writes : goal.returns-in-Err-lacking_files-clause-writes
returns-in-Err-lacking_files-clause-writes g c =
    (0, inl refl, free_none g.D.Disk c.args.files.now c.args.disk.now _ is_reply)

pub returns-in-Err-lacking_files-clause-leaves : goal.returns-in-Err-lacking_files-clause-leaves
returns-in-Err-lacking_files-clause-leaves g c =
    rests_there g.D.Disk c.args.disk.now c.in-Err-lacking_files.reply

pub draft_group-drafted-requires-clause-places : goal.draft_group-drafted-requires-clause-places
draft_group-drafted-requires-clause-places g c =
    let listed = c.as_slice-listed.result.now in
    let leased : IsLeased c.args.room c.args.state.now c.args.lease c.in-Some.view.now =
    record { row = sym c.in-Some.ensures.row; bare = sym (c.in-Some.ensures.bare c.args.room) } in
    subst (λ (ws : List WantedFile). ArePlaces listed ws) (sym c.as_slice-wanted.ensures) (record {
      within = all_within listed c.in-Ok-lacking_files.wanted (lacking c.args.state.now listed)
          c.in-Ok-lacking_files.ensures.lacking.places;
      sized = subst
          (λ (es : List FileEntry). All (λ (entry : FileEntry). entry.size < 2 ^ 61) es)
          (sym (c.as_slice-listed.ensures ∙ c.in-Ok.ensures.files))
          (small_files c.args.group.now c.in-Some.view.now.application
          (leased_held c.args.room c.args.state.now c.args.lease c.in-Some.view.now
          c.are_tables.ensures leased));
    })

pub draft_group-drafted-requires-clause-empty : goal.draft_group-drafted-requires-clause-empty
draft_group-drafted-requires-clause-empty g c = c.new-drafts.ensures.none

pub draft_group-drafted-requires-clause-room : goal.draft_group-drafted-requires-clause-room
draft_group-drafted-requires-clause-room g c =
    let view = c.in-Some.view.now in
    let leased : IsLeased c.args.room c.args.state.now c.args.lease view =
    record { row = sym c.in-Some.ensures.row; bare = sym (c.in-Some.ensures.bare c.args.room) } in
    let same = c.as_slice-listed.ensures ∙ c.in-Ok.ensures.files in
    subst (λ (ws : List WantedFile).
    blocks_needed c.as_slice-listed.result.now ws ≤ length (free_of c.args.files.now))
    (sym c.as_slice-wanted.ensures)
    (subst (λ (es : List FileEntry).
    blocks_needed es c.in-Ok-lacking_files.wanted ≤ length (free_of c.args.files.now)) (sym same)
    (room_enough c.args.room c.args.state.now c.args.lease c.args.group.now view leased
    c.in-Ok.ensures.some (sym c.has_group.ensures ∙ c.if-has_group.false)
    c.in-Ok-lacking_files.wanted
    (subst (λ (es : List FileEntry). AreLacking c.args.room c.args.state.now view
    c.args.group.now es c.in-Ok-lacking_files.wanted) same c.in-Ok-lacking_files.ensures.lacking)
    c.args.files.now c.held_are_used.ensures c.are_tables.ensures c.requires.measured
    c.requires.blocks))

pub finish-requires : goal.finish-requires
finish-requires g c = c.draft_group-drafted.ensures.works.2.used

pub returns-clause-prepared : goal.returns-clause-prepared
returns-clause-prepared g c =
    let state = g.L.Links.links in
    let a = state c.args.links.now in
    let b = state c.draft_group-drafted.new.links in
    let tables = c.args.state.now in
    let view = c.in-Some.view.now in
    let group = c.args.group.now in
    let wanted = c.as_slice-wanted.result.now in
    let leased : IsLeased c.args.room tables c.args.lease view =
    record { row = sym c.in-Some.ensures.row; bare = sym (c.in-Some.ensures.bare c.args.room) } in
    let same = c.as_slice-listed.ensures ∙ c.in-Ok.ensures.files in
    let drafted = c.draft_group-drafted.result in
    let works = c.draft_group-drafted.ensures.works in
    group_ended g.D.Disk c.args.room tables c.args.lease group view leased c.in-Ok.ensures.some
    (sym c.has_group.ensures ∙ c.if-has_group.false) c.are_tables.ensures
    c.groups_show_the_files.ensures c.changed_tables_weigh.ensures.with_group wanted
    (subst (λ (ws : List WantedFile).
    AreLacking c.args.room tables view group (map ungrouped (group_files group view.application)) ws)
    (sym c.as_slice-wanted.ensures)
    (subst (λ (es : List FileEntry). AreLacking c.args.room tables view group es
    c.in-Ok-lacking_files.wanted) same c.in-Ok-lacking_files.ensures.lacking))
    a b c.draft_group-drafted.new.drafts c.args.files.now c.draft_group-drafted.new.files
    c.finish.new.files c.requires.blocks c.args.disk.now c.draft_group-drafted.new.disk
    c.finish.new.disk drafted c.finish.result works.0
    (subst (λ (ds : List Draft). Works g.D.Disk ds c.draft_group-drafted.new.drafts
    c.args.files.now c.draft_group-drafted.new.files c.args.disk.now
    c.draft_group-drafted.new.disk works.0 (drafted ≡ Err by.DiskFault))
    c.new-drafts.ensures.none works.2)
    c.finish.ensures.ends c.finish.ensures.seals
    (subst (λ (es : List FileEntry). IfOk drafted (GroupDrafts g.D.Disk
    (store_base c.args.files.now) view.number group es wanted a b
    c.draft_group-drafted.new.drafts c.draft_group-drafted.new.disk)) same
    c.draft_group-drafted.ensures.fetched)
    (subst (λ (es : List FileEntry). IfErr drafted (λ lack. IsStopped es wanted a b
    (lack_reply lack))) same c.draft_group-drafted.ensures.stopped)

pub returns-clause-writes : goal.returns-clause-writes
returns-clause-writes g c =
    let state = g.L.Links.links in
    let a = state c.args.links.now in
    let b = state c.draft_group-drafted.new.links in
    let tables = c.args.state.now in
    let view = c.in-Some.view.now in
    let group = c.args.group.now in
    let wanted = c.as_slice-wanted.result.now in
    let leased : IsLeased c.args.room tables c.args.lease view =
    record { row = sym c.in-Some.ensures.row; bare = sym (c.in-Some.ensures.bare c.args.room) } in
    let same = c.as_slice-listed.ensures ∙ c.in-Ok.ensures.files in
    let drafted = c.draft_group-drafted.result in
    let works = c.draft_group-drafted.ensures.works in (
      works.0,
      group_cost c.args.room tables c.args.lease group view leased c.in-Ok.ensures.some
          (sym c.has_group.ensures ∙ c.if-has_group.false) wanted
          (subst (λ (ws : List WantedFile). AreLacking c.args.room tables view group
          (map ungrouped (group_files group view.application)) ws)
          (sym c.as_slice-wanted.ensures)
          (subst (λ (es : List FileEntry). AreLacking c.args.room tables view group es
          c.in-Ok-lacking_files.wanted) same c.in-Ok-lacking_files.ensures.lacking))
          a b works.0
          (subst (λ (es : List FileEntry). WritesAsked es wanted a b works.0) same works.1),
      writes_free g.D.Disk c.draft_group-drafted.new.drafts c.args.files.now
          c.draft_group-drafted.new.files c.finish.new.files c.args.disk.now
          c.draft_group-drafted.new.disk c.finish.new.disk drafted c.finish.result works.0
          (subst (λ (ds : List Draft). Works g.D.Disk ds c.draft_group-drafted.new.drafts
          c.args.files.now c.draft_group-drafted.new.files c.args.disk.now
          c.draft_group-drafted.new.disk works.0 (drafted ≡ Err by.DiskFault))
          c.new-drafts.ensures.none works.2)
          c.finish.ensures.ends c.finish.ensures.seals,
    )

pub returns-clause-leaves : goal.returns-clause-leaves
returns-clause-leaves g c =
    let state = g.L.Links.links in
    leaves_disk g.D.Disk c.args.disk.now c.finish.new.disk c.as_slice-listed.result.now
    c.as_slice-wanted.result.now (state c.args.links.now) (state c.draft_group-drafted.new.links)
    c.draft_group-drafted.result c.finish.result c.finish.ensures.ends
    c.draft_group-drafted.ensures.stopped
