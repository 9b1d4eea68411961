use Rattle.machine.specs.DataFiles.{with_named}
use Rattle.store_state.specs.Locals.{local_name}
use Rattle.store_state.proofs.Edited.{edit_is, indexes_are, put_row, tables_are}
use Rattle.store_state.proofs.state.StoreState.put.Goals as goal

-- the data file is among those of the view
pub invariant_of-self-2 : goal.invariant_of-self-2
invariant_of-self-2 c = (
  c.self.invariant.0,
  tables_are c.args.number (with_named local_name c.args.file) c.self.view_is
      c.self.invariant.1 c.in-Some.ensures.found c.in_ok-put_at.ensures.ok
      (put_row c.args.number c.args.file c.self.view_is c.self.invariant.1 c.requires),
  c.self.invariant.2,
  indexes_are c.args.number (with_named local_name c.args.file) c.self.view_is
      c.self.invariant.1 c.in-Some.ensures.found c.in_ok-put_at.ensures.ok c.self.inside.names
      c.self.invariant.3,
)

pub returns-clause-ok : goal.returns-clause-ok
returns-clause-ok c =
    edit_is c.args.number (with_named local_name c.args.file) c.self.view_is
    c.self.invariant.1 c.in-Some.ensures.found c.in_ok-put_at.ensures.ok
