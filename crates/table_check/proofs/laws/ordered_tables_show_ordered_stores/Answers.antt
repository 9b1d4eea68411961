use Rattle.table_check.proofs.ShownOrder.{exactly_ordered, ordered_shown}
use Rattle.table_check.proofs.laws.ordered_tables_show_ordered_stores.Goals as goal

pub returns-clause-exact : goal.returns-clause-exact
returns-clause-exact c =
    λ room tables image store are some few shows. exactly_ordered room image tables are store some
    few shows

pub returns-clause-shown : goal.returns-clause-shown
returns-clause-shown c =
    λ room tables image are ordered some few whole measured. ordered_shown room image tables are
    ordered some few whole measured
