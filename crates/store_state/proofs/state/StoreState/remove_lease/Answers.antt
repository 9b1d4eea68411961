use Rattle.store_state.proofs.ChangedTables.{with_fewer}
use Rattle.store_state.proofs.state.StoreState.remove_lease.Goals as goal

-- the leases that are left are in order
pub invariant_of-self : goal.invariant_of-self
invariant_of-self c = (
  c.self.invariant.0,
  with_fewer
      (record {
        boot = c.self.inside.boot;
        next_view = c.self.inside.next_view;
        next_lease = c.self.inside.next_lease;
        leases = c.self.inside.leases;
        views = c.self.inside.views;
        apps = c.self.inside.apps;
        contents = c.self.inside.contents;
      })
      c.args.number c.remove.new.self c.self.invariant.1 c.remove.ensures,
  c.self.invariant.2,
  c.self.invariant.3,
)
