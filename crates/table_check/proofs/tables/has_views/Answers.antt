use Rattle.std.proofs.Common.{◌∙◌, ap}
use Rattle.store_state.specs.Tables.{Tables}
use Rattle.table_check.specs.OrderedTables.{IsInstalledRow}
use Rattle.table_check.proofs.EqualLists.{told_of}
use Rattle.table_check.proofs.tables.has_views.Goals as goal

pub returns : goal.returns
returns c =
    told_of (IsInstalledRow c.args.state.now.apps) c.as_slice.result.now c.args.state.now.views
    c.are_installed_rows.result
    (c.as_slice.ensures ∙ ap (λ (t : Tables). t.views) c.state.view_is)
    c.are_installed_rows.ensures
