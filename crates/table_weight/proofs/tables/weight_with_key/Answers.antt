use Rattle.std.proofs.Common.{◌∙◌, refl, ap, ℕ, min}
use Rattle.std.specs.Prelude.{sum_by}
use Rattle.machine.specs.RequireRow.{required}
use Rattle.machine.specs.Weight.{app_weight}
use Rattle.store_state.specs.Tables.{Tables}
use Rattle.table_weight.specs.Weight.{block_cost, content_weight, view_weight}
use Rattle.table_weight.proofs.Totals.{joined, with_apps}
use Rattle.table_weight.proofs.tables.weight_with_key.Goals as goal

pub returns : goal.returns
returns c = λ version.
    let apps = required c.args.key.now version c.args.state.now.apps in
    joined (sum_by app_weight apps)
    (sum_by (view_weight block_cost) c.as_slice.result.now)
    (sum_by (content_weight block_cost) c.as_slice-2.result.now)
    c.sum_required-apps.result c.sum_weights-views.result c.sum_weights-contents.result
    c.sum_parts.result 18446744073709551615 (c.sum_required-apps.ensures version)
    c.sum_weights-views.ensures c.sum_weights-contents.ensures c.sum_parts.ensures
    ∙ ap (λ (n : ℕ). min n 18446744073709551615)
    (with_apps c.args.state.now c.are_tables.ensures c.args.state.now.apps c.as_slice.result.now
    c.as_slice-2.result.now refl
    (c.as_slice.ensures ∙ ap (λ (t : Tables). t.views) c.state.view_is)
    (c.as_slice-2.ensures ∙ ap (λ (t : Tables). t.contents) c.state.view_is) apps)
