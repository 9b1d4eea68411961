use Rattle.std.proofs.Common.{◌≡◌, ◌∙◌, List, ap, length, map, refl, sym, arith}
use Rattle.manifests.specs.declared.facts.FileEntry.{FileEntry}
use Rattle.machine.specs.Wanted.{wanted}
use Rattle.store_state.specs.Tables.{bare_row}
use Rattle.install_plan.specs.declared.plan.WantedFile.{WantedFile}
use Rattle.install_plan.specs.Changes.{listed_at}
use Rattle.install_plan.proofs.NewBlocks.{all_blocks}
use Rattle.install_plan.proofs.FetchedSplit.{places_are}
use Rattle.install_plan.proofs.Sources.{as_many}
use Rattle.install_plan.specs.InstallDrafts.{drafted_contents}
use Rattle.install_plan.proofs.install.new_files.Goals as goal

pub returns-in-Ok-place_data-clause-blocks : goal.returns-in-Ok-place_data-clause-blocks
returns-in-Ok-place_data-clause-blocks c =
    let plan = c.args.plan.now in
    let entries = wanted (map bare_row c.args.state.now.views) plan.application in
    let wanted_is : length c.as_slice-wanted.result.now ≡ length plan.wanted = ap (λ (ws : List WantedFile). length ws) c.as_slice-wanted.ensures in
    let contents = drafted_contents plan c.args.drafts.now in
    let counted : length entries ≡ length c.as_slice-wanted.result.now = sym (as_many c.args.state.now plan contents c.requires.contents) ∙ c.requires.contents.each ∙ sym wanted_is in
    let all_is : length c.as_slice-all.result.now ≡ length c.args.drafts.now = ap length c.as_slice-all.ensures in
    let each = c.requires.each in
    all_blocks entries (listed_at c.as_slice-listed.result.now c.as_slice-wanted.result.now) (length c.as_slice-wanted.result.now) c.as_slice-all.result.now c.args.drafts.now _ c.in-Ok.contents c.from_vec.result c.in-Ok-parts_of.parts.programs.items
    c.in-Ok-parts_of.parts.locals.items c.in-Ok-place_data.placed.locals c.in-Ok-place_data.placed.taken c.in-Ok-place_data.placed.unused
    (places_are plan.application.files c.as_slice-listed.result.now plan.wanted c.as_slice-wanted.result.now c.as_slice-listed.ensures c.as_slice-wanted.ensures ∙ c.requires.contents.places)
    counted (omega (arith, wanted_is, all_is, each)) c.in-Ok.ensures.contents c.in-Ok-parts_of.ensures.programs c.from_vec.ensures c.in-Ok-parts_of.ensures.locals
    refl c.in-Ok-place_data.ensures.blocks c.in-Ok-place_data.ensures.taken c.as_slice-all.ensures
