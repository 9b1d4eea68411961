use Rattle.std.proofs.Common.{◌∙◌, ap}
use Rattle.store_state.specs.Tables.{Tables}
use Rattle.table_weight.proofs.EntrySums.{none_required, some_required}
use Rattle.table_weight.proofs.entries.sum_required.Goals as goal

pub returns-in-Some : goal.returns-in-Some
returns-in-Some c = λ version.
    some_required c.args.key.now c.args.state.now.apps c.as_slice.result.now
    (c.as_slice.ensures ∙ ap (λ (t : Tables). t.apps) c.state.view_is) version c.entry.result
    c.in-Some.field-0 c.sum_weights-known.result 18446744073709551615 c.entry.ensures c.in-Some.is
    c.sum_weights-known.ensures

pub returns-in-None : goal.returns-in-None
returns-in-None c = λ version.
    none_required c.args.key.now c.args.state.now.apps c.as_slice.result.now
    (c.as_slice.ensures ∙ ap (λ (t : Tables). t.apps) c.state.view_is) version c.entry.result
    c.count_key.result c.saturating_add.result c.sum_weights-known.result
    c.saturating_add-in-None.result 18446744073709551615 c.entry.ensures c.in-None.is
    c.sum_weights-known.ensures c.count_key.ensures c.saturating_add.ensures
    c.saturating_add-in-None.ensures
