use Rattle.std.proofs.Common.{◌≡◌, ◌∙◌, ◌⊎◌, ◌-◌, ◌^◌, Err, List, ap, map, subst, sym}
use Rattle.std.specs.Prelude.{Any, min, sum_by}
use Rattle.addresses.specs.declared.fault.UrlFault.TheVariants.{BadUrl}
use Rattle.addresses.specs.Join.{file_target_of}
use Rattle.manifests.specs.declared.facts.FileEntry.{FileEntry}
use Rattle.machine.specs.declared.reply.Reply.TheVariants as says
use Rattle.machine.specs.Blocks.{blocks_of, standing_files}
use Rattle.machine.specs.Wanted.{wanted_beside}
use Rattle.store_state.specs.Tables.{bare_row, table_shape}
use Rattle.install_plan.proofs.NeededBlocks.{need_is}
use Rattle.install_plan.proofs.Released.{by_files, by_identity, by_room, by_wants, released}
use Rattle.install_plan.proofs.release.judge_places.Goals as goal

pub returns-in-Err-clause-judged : goal.returns-in-Err-clause-judged
returns-in-Err-clause-judged c = λ url at is.
    by_identity (table_shape c.args.room c.args.state.now) url c.args.d.now c.args.a.now c.args.base.now at c.in-Err.reply c.in-Err.ensures

pub returns-in-Err-judge_files-clause-judged : goal.returns-in-Err-judge_files-clause-judged
returns-in-Err-judge_files-clause-judged c = λ url at is.
    by_files (table_shape c.args.room c.args.state.now) url c.args.d.now c.args.a.now c.args.base.now at c.in_default.ensures c.in-Err-judge_files.reply (c.in-Err-judge_files.ensures c.args.room)

pub returns-in-Err-wants-clause-judged : goal.returns-in-Err-wants-clause-judged
returns-in-Err-wants-clause-judged c = λ url at is.
    let held = standing_files (map bare_row c.args.state.now.views) in
    let reply = c.in-Err-wants.reply in
    by_wants (table_shape c.args.room c.args.state.now) url c.args.d.now c.args.a.now c.args.base.now at c.in_default.ensures (c.in_default-judge_files.ensures c.args.room) reply
    (subst (λ (files : List FileEntry). (reply ≡ says.Memory) ⊎ ((reply ≡ says.BadUrl) × Any (λ (entry : FileEntry). file_target_of c.args.base.now c.args.d.now.mapped entry.name ≡ Err BadUrl) (wanted_beside held files)))
    c.as_slice.ensures c.in-Err-wants.ensures.refused)

pub returns-in-Ok-judge_room-clause-judged : goal.returns-in-Ok-judge_room-clause-judged
returns-in-Ok-judge_room-clause-judged c = λ url at is.
    let shape = table_shape c.args.room c.args.state.now in
    let held = standing_files (map bare_row c.args.state.now.views) in
    let files = c.in_default-judge_files.ensures c.args.room in
    let need = need_is shape c.args.d.now c.args.a.now is files.0 c.in-Ok.wants.need c.copied_blocks-copied.result c.saturating_add-need.result
    (c.in-Ok.ensures.need ∙ ap (λ (es : List FileEntry). min (sum_by (λ (entry : FileEntry). blocks_of entry.size) (wanted_beside held es)) (2 ^ 64 - 1)) c.as_slice.ensures)
    (c.copied_blocks-copied.ensures.sum c.args.room) c.copied_blocks-copied.ensures.few c.saturating_add-need.ensures in
    released shape url c.args.d.now c.args.a.now c.args.base.now at c.in_default.ensures files c.in-Ok.wants.files
    (ap (λ (es : List FileEntry). map (λ entry. file_target_of c.args.base.now c.args.d.now.mapped entry.name) (wanted_beside held es)) (sym c.as_slice.ensures) ∙ c.in-Ok.ensures.targets)
    c.saturating_add-need.result need c.in-Ok-judge_room.ensures

pub returns-in-Err-judge_room-clause-judged : goal.returns-in-Err-judge_room-clause-judged
returns-in-Err-judge_room-clause-judged c = λ url at is.
    let shape = table_shape c.args.room c.args.state.now in
    let held = standing_files (map bare_row c.args.state.now.views) in
    let files = c.in_default-judge_files.ensures c.args.room in
    let need = need_is shape c.args.d.now c.args.a.now is files.0 c.in-Ok.wants.need c.copied_blocks-copied.result c.saturating_add-need.result
    (c.in-Ok.ensures.need ∙ ap (λ (es : List FileEntry). min (sum_by (λ (entry : FileEntry). blocks_of entry.size) (wanted_beside held es)) (2 ^ 64 - 1)) c.as_slice.ensures)
    (c.copied_blocks-copied.ensures.sum c.args.room) c.copied_blocks-copied.ensures.few c.saturating_add-need.ensures in
    by_room shape url c.args.d.now c.args.a.now c.args.base.now at c.in_default.ensures files c.in-Ok.wants.files
    (ap (λ (es : List FileEntry). map (λ entry. file_target_of c.args.base.now c.args.d.now.mapped entry.name) (wanted_beside held es)) (sym c.as_slice.ensures) ∙ c.in-Ok.ensures.targets)
    c.saturating_add-need.result need c.in-Err-judge_room.reply c.in-Err-judge_room.ensures
