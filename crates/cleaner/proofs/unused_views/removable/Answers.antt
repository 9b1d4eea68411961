use Rattle.std.proofs.Common.{◌∙◌, ap}
use Rattle.store_state.specs.Tables.{Tables}
use Rattle.cleaner.proofs.NamedViews.{free_is, free_numbers}
use Rattle.cleaner.proofs.unused_views.removable.Goals as goal

pub returns : goal.returns
returns c = λ room. (
    let views = c.as_slice.ensures ∙ ap (λ (t : Tables). t.views) c.state.view_is in
    c.from_vec.ensures ∙ c.in_ok-found.ensures
    ∙ ap (λ ns. free_numbers ns c.as_slice.result.now) c.as_slice-2.ensures.value
    ∙ ap (free_numbers c.in_ok-used.used.items) views
    ∙ free_is room c.args.state.now c.in_ok-used.used.items c.in_ok-used.ensures.used
    )
