use Rattle.std.proofs.Common.{◌∙◌, ap}
use Rattle.store_state.specs.Tables.{Tables}
use Rattle.table_weight.proofs.EntrySums.{none_provided, some_provided}
use Rattle.table_weight.proofs.entries.sum_provided.Goals as goal

pub returns-in-Some : goal.returns-in-Some
returns-in-Some c =
    some_provided c.args.key.now c.args.state.now.apps c.as_slice-apps.result.now
    (c.as_slice-apps.ensures ∙ ap (λ (t : Tables). t.apps) c.state.view_is) c.args.provider.now
    c.in-Some.place c.sum_provided_at.result 18446744073709551615 c.are_tables.ensures.order
    c.in-Some.ensures.found.0 c.in-Some.ensures.found.1 c.sum_provided_at.ensures

pub returns-in-None : goal.returns-in-None
returns-in-None c =
    none_provided c.args.key.now c.args.state.now.apps c.as_slice-apps.result.now
    (c.as_slice-apps.ensures ∙ ap (λ (t : Tables). t.apps) c.state.view_is) c.args.provider.now
    c.weigh_provided.result c.sum_weights.result c.saturating_add.result 18446744073709551615
    c.in-None.ensures.none c.weigh_provided.ensures c.sum_weights.ensures c.saturating_add.ensures
