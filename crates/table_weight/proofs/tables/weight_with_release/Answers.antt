use Rattle.std.proofs.Common.{◌∙◌, ◌+◌, refl, ap, ℕ, List, min}
use Rattle.std.specs.Prelude.{slice_get, sum_by}
use Rattle.manifests.specs.declared.facts.FileEntry.{FileEntry}
use Rattle.machine.specs.declared.weights.TheConstants.{STATE_WEIGHT}
use Rattle.machine.specs.BareViews.{migrated_data}
use Rattle.machine.specs.Current.{bare_data_of, bare_listed_by, current_bare}
use Rattle.machine.specs.Entries.{with_entry}
use Rattle.machine.specs.InstallRow.{with_provider}
use Rattle.machine.specs.Weight.{app_weight, counted, data_weight}
use Rattle.store_state.specs.Tables.{Tables, table_shape}
use Rattle.table_weight.specs.Releases.{program_weight, release_weight}
use Rattle.table_weight.specs.Weight.{block_cost, content_weight, view_weight}
use Rattle.table_weight.proofs.Totals.{joined, joined_more, with_release}
use Rattle.table_weight.proofs.tables.weight_with_release.Goals as goal

pub returns : goal.returns
returns c = λ room wanted.
    let t = c.args.state.now in
    let key = c.args.d.now.identity.key in
    let old = current_bare key (table_shape room t) in
    let weigh = λ (files : List FileEntry).
    sum_by data_weight (migrated_data (bare_data_of old) (bare_listed_by old) files) in
    let apps = sum_by app_weight (with_entry key (with_provider c.args.provider.now) t.apps) in
    let views = sum_by (view_weight block_cost) c.as_slice.result.now in
    let contents = sum_by (content_weight block_cost) c.as_slice-2.result.now in
    let release = release_weight c.args.d.now c.args.a.now c.args.base.now in
    let moved = weigh c.args.a.now.files in
    let programs = sum_by (λ (place : ℕ).
    counted program_weight (slice_get c.as_slice-files.result.now place)) c.args.places.now in
    joined_more (STATE_WEIGHT + apps + views + contents) (release + moved + programs)
    c.sum_parts-known.result c.saturating_add-new.result c.saturating_add.result
    18446744073709551615
    (joined apps views contents c.sum_provided-apps.result c.sum_weights-views.result
    c.sum_weights-contents.result c.sum_parts-known.result 18446744073709551615
    c.sum_provided-apps.ensures c.sum_weights-views.ensures c.sum_weights-contents.ensures
    c.sum_parts-known.ensures)
    (joined_more (release + moved) programs c.saturating_add-release.result
    c.sum_programs.result c.saturating_add-new.result 18446744073709551615
    (joined_more release moved c.weigh_release.result c.in_ok-moves.moves
    c.saturating_add-release.result 18446744073709551615 c.weigh_release.ensures
    (c.in_ok-moves.ensures room ∙ ap (λ (fs : List FileEntry). min (weigh fs) 18446744073709551615)
    c.as_slice-files.ensures)
    c.saturating_add-release.ensures)
    c.sum_programs.ensures c.saturating_add-new.ensures)
    c.saturating_add.ensures
    ∙ ap (λ (n : ℕ). min n 18446744073709551615)
    (with_release t c.are_tables.ensures t.apps c.as_slice.result.now c.as_slice-2.result.now refl
    (c.as_slice.ensures ∙ ap (λ (t : Tables). t.views) c.state.view_is)
    (c.as_slice-2.ensures ∙ ap (λ (t : Tables). t.contents) c.state.view_is) room
    c.args.provider.now c.args.base.now c.args.d.now c.args.a.now c.as_slice-files.result.now
    c.args.places.now c.as_slice-files.ensures wanted)
