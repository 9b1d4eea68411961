use Rattle.std.proofs.Common.{◌∙◌, ap, All}
use Rattle.store_state.specs.declared.view.View.{View}
use Rattle.store_state.specs.Measured.{IsMeasuredLocal}
use Rattle.store_state.specs.Tables.{Tables}
use Rattle.table_check.proofs.EqualLists.{told_of}
use Rattle.table_check.proofs.files.has_measured_views.Goals as goal

pub returns : goal.returns
returns c =
    told_of (λ (view : View). All IsMeasuredLocal view.locals) c.as_slice.result.now
    c.args.state.now.views c.are_measured_views.result
    (c.as_slice.ensures ∙ ap (λ (t : Tables). t.views) c.state.view_is)
    c.are_measured_views.ensures
