use Rattle.std.proofs.Common.{◌∙◌, ◌+◌, ap, ℕ, cond, eqb, min}
use Rattle.std.specs.Prelude.{slice_get, sum_by}
use Rattle.machine.specs.declared.weights.TheConstants.{STATE_WEIGHT}
use Rattle.machine.specs.BareViews.{with_bare_group}
use Rattle.machine.specs.Weight.{app_weight, counted}
use Rattle.machine.specs.Weight.{view_weight as bare_weight}
use Rattle.store_state.specs.declared.view.View.{View}
use Rattle.store_state.specs.Tables.{Tables, bare_row}
use Rattle.table_weight.specs.Releases.{program_weight}
use Rattle.table_weight.specs.Weight.{block_cost, content_weight}
use Rattle.table_weight.proofs.Totals.{joined, joined_more, with_group}
use Rattle.table_weight.proofs.tables.weight_with_group.Goals as goal

pub returns : goal.returns
returns c = λ room row files wanted.
    let apps = sum_by app_weight c.as_slice.result.now in
    let views = sum_by (λ (view : View). bare_weight (cond (eqb view.number c.args.view.now.number)
    (with_bare_group c.args.group.now (bare_row view)) (bare_row view)))
    c.as_slice-2.result.now in
    let contents = sum_by (content_weight block_cost) c.as_slice-3.result.now in
    let programs = sum_by (λ (place : ℕ).
    counted program_weight (slice_get c.args.files.now place)) c.args.places.now in
    joined_more (STATE_WEIGHT + apps + views + contents) programs c.sum_parts-known.result
    c.sum_programs.result c.saturating_add.result 18446744073709551615
    (joined apps views contents c.sum_weights-apps.result c.sum_grown-views.result
    c.sum_weights-contents.result c.sum_parts-known.result 18446744073709551615
    c.sum_weights-apps.ensures c.sum_grown-views.ensures c.sum_weights-contents.ensures
    c.sum_parts-known.ensures)
    c.sum_programs.ensures c.saturating_add.ensures
    ∙ ap (λ (n : ℕ). min n 18446744073709551615)
    (with_group c.args.state.now c.are_tables.ensures c.as_slice.result.now
    c.as_slice-2.result.now c.as_slice-3.result.now
    (c.as_slice.ensures ∙ ap (λ (t : Tables). t.apps) c.state.view_is)
    (c.as_slice-2.ensures ∙ ap (λ (t : Tables). t.views) c.state.view_is)
    (c.as_slice-3.ensures ∙ ap (λ (t : Tables). t.contents) c.state.view_is)
    c.args.view.now.number room c.args.group.now c.args.view.now c.args.files.now
    c.args.places.now row files wanted)
