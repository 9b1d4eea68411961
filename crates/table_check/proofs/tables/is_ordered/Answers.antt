use Rattle.table_check.proofs.ShownOrder.{told_by}
use Rattle.table_check.proofs.tables.is_ordered.Goals as goal

pub returns-clause-store : goal.returns-clause-store
returns-clause-store c =
    λ room image store some few shows. told_by room image c.args.state.now c.are_tables.ensures
    store some few shows c.are_ordered.ensures
