use Rattle.std.proofs.Common.{◌∙◌, ap}
use Rattle.store_state.specs.Tables.{Tables}
use Rattle.table_check.specs.OrderedTables.{IsAppOf}
use Rattle.table_check.proofs.EqualLists.{told_of}
use Rattle.table_check.proofs.tables.has_apps.Goals as goal

pub returns : goal.returns
returns c =
    told_of (IsAppOf c.args.state.now.views) c.as_slice.result.now c.args.state.now.apps
    c.are_apps_of.result (c.as_slice.ensures ∙ ap (λ (t : Tables). t.apps) c.state.view_is)
    c.are_apps_of.ensures
