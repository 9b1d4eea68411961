use Rattle.std.proofs.Common.{◌∙◌, ◌<◌, ◌-◌, ◌^◌, ℕ, All, List, ap, length, map, subst, sym}
use Rattle.std.specs.Prelude.{min, slice_get, sum_by}
use Rattle.machine.specs.Blocks.{standing_files}
use Rattle.machine.specs.Wanted.{wanted_beside}
use Rattle.store_state.specs.Tables.{bare_row}
use Rattle.install_plan.specs.WantedFiles.{blocks_at, target_at}
use Rattle.install_plan.proofs.Wants.{at_entries, blocks_are, places_within, refused_entry, wanted_at}
use Rattle.install_plan.proofs.release.wants.Goals as goal

pub wanted_files-requires : goal.wanted_files-requires
wanted_files-requires c =
    let files = c.args.files.now in
    let entries = wanted_beside (standing_files (map bare_row c.args.state.now.views)) files in
    subst (λ (places : List ℕ). All (λ (place : ℕ). place < length files) places) (sym c.as_slice-2.ensures.value) (places_within files c.in-Ok.places.items entries c.in-Ok.ensures.places)

pub returns-in-Ok-wanted_files-clause-places : goal.returns-in-Ok-wanted_files-clause-places
returns-in-Ok-wanted_files-clause-places c =
    let files = c.args.files.now in
    let entries = wanted_beside (standing_files (map bare_row c.args.state.now.views)) files in
    wanted_at files c.in-Ok-wanted_files.files c.in-Ok.places.items entries (c.in-Ok-wanted_files.ensures.places ∙ c.as_slice-2.ensures.value) c.in-Ok.ensures.places

pub returns-in-Ok-wanted_files-clause-targets : goal.returns-in-Ok-wanted_files-clause-targets
returns-in-Ok-wanted_files-clause-targets c =
    let files = c.args.files.now in
    let entries = wanted_beside (standing_files (map bare_row c.args.state.now.views)) files in
    sym (at_entries files (target_at c.args.base.now c.args.mapped) c.in-Ok.places.items entries c.in-Ok.ensures.places)
    ∙ ap (λ (places : List ℕ). map (λ place. target_at c.args.base.now c.args.mapped (slice_get files place)) places) (sym c.as_slice-2.ensures.value)
    ∙ c.in-Ok-wanted_files.ensures.targets

pub returns-in-Ok-wanted_files-clause-need : goal.returns-in-Ok-wanted_files-clause-need
returns-in-Ok-wanted_files-clause-need c =
    let files = c.args.files.now in
    let entries = wanted_beside (standing_files (map bare_row c.args.state.now.views)) files in
    c.blocks_needed-need.ensures
    ∙ ap (λ (places : List ℕ). min (sum_by (λ place. blocks_at (slice_get files place)) places) (2 ^ 64 - 1)) c.as_slice.ensures.value
    ∙ ap (λ (n : ℕ). min n (2 ^ 64 - 1)) (blocks_are files c.in-Ok.places.items entries c.in-Ok.ensures.places)

pub returns-in-Err-wanted_files-clause-refused : goal.returns-in-Err-wanted_files-clause-refused
returns-in-Err-wanted_files-clause-refused c =
    let files = c.args.files.now in
    let entries = wanted_beside (standing_files (map bare_row c.args.state.now.views)) files in
    let same = ap (map (slice_get files)) c.as_slice-2.ensures.value ∙ c.in-Ok.ensures.places in
    refused_entry files c.in-Err-wanted_files.reply c.args.base.now c.args.mapped c.as_slice-2.result.now entries same c.in-Err-wanted_files.ensures.refused
