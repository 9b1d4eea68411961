use Rattle.std.proofs.Common.{◌∙◌, sym, subst, ap, ℕ, All, List, cond, eqb, min}
use Rattle.std.specs.Prelude.{sum_by}
use Rattle.machine.specs.BareViews.{with_bare_data}
use Rattle.machine.specs.Weight.{app_weight}
use Rattle.machine.specs.Weight.{view_weight as bare_weight}
use Rattle.store_state.specs.declared.view.View.{View}
use Rattle.store_state.specs.Change.{IsRow}
use Rattle.store_state.specs.Tables.{Tables, bare_row}
use Rattle.table_weight.specs.Weight.{block_cost, content_weight}
use Rattle.table_weight.proofs.Totals.{joined, with_data}
use Rattle.table_weight.proofs.tables.weight_with_data.Goals as goal

pub sum_put-views-requires : goal.sum_put-views-requires
sum_put-views-requires c =
    subst (λ (vs : List View). All IsRow vs)
    (sym (c.as_slice-2.ensures ∙ ap (λ (t : Tables). t.views) c.state.view_is))
    c.are_tables.ensures.rows

pub returns : goal.returns
returns c = λ room.
    joined (sum_by app_weight c.as_slice.result.now)
    (sum_by (λ (view : View). bare_weight (cond (eqb view.number c.args.number)
    (with_bare_data (record { name = c.args.name.now; length = c.args.length }) (bare_row view))
    (bare_row view))) c.as_slice-2.result.now)
    (sum_by (content_weight block_cost) c.as_slice-3.result.now)
    c.sum_weights-apps.result c.sum_put-views.result c.sum_weights-contents.result
    c.sum_parts.result 18446744073709551615 c.sum_weights-apps.ensures
    c.sum_put-views.ensures c.sum_weights-contents.ensures c.sum_parts.ensures
    ∙ ap (λ (n : ℕ). min n 18446744073709551615)
    (with_data c.args.state.now c.are_tables.ensures c.as_slice.result.now
    c.as_slice-2.result.now c.as_slice-3.result.now
    (c.as_slice.ensures ∙ ap (λ (t : Tables). t.apps) c.state.view_is)
    (c.as_slice-2.ensures ∙ ap (λ (t : Tables). t.views) c.state.view_is)
    (c.as_slice-3.ensures ∙ ap (λ (t : Tables). t.contents) c.state.view_is) c.args.number room
    (record { name = c.args.name.now; length = c.args.length }))
