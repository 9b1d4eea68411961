use Rattle.machine.specs.DataFiles.{without_named}
use Rattle.store_state.specs.Locals.{local_name}
use Rattle.store_state.proofs.Edited.{edit_is, indexes_are, left_row, tables_are}
use Rattle.store_state.proofs.state.StoreState.cut_local.Goals as goal

-- the data files that are left are in their limits
pub invariant_of-self : goal.invariant_of-self
invariant_of-self c = (
  c.self.invariant.0,
  tables_are c.args.number (without_named local_name c.args.name.now) c.self.view_is
      c.self.invariant.1 c.in-Some.ensures.found c.cut_at.ensures
      (left_row c.args.number c.args.name.now c.self.view_is),
  c.self.invariant.2,
  indexes_are c.args.number (without_named local_name c.args.name.now) c.self.view_is
      c.self.invariant.1 c.in-Some.ensures.found c.cut_at.ensures c.self.inside.names
      c.self.invariant.3,
)

pub returns : goal.returns
returns c =
    edit_is c.args.number (without_named local_name c.args.name.now) c.self.view_is
    c.self.invariant.1 c.in-Some.ensures.found c.cut_at.ensures
