use Rattle.std.proofs.Common.{◌≡◌, drop}
use Rattle.store_state.specs.Locals.{local_named}
use Rattle.install_plan.proofs.new_locals.take_fetched.Given as goal

abbrev pub invariant-loop-place : goal.invariant-loop-place
invariant-loop-place l = record {
  same : l.fetched ≡ l.initial.fetched;
  before : local_named l.name (drop l.place l.initial.fetched.items) ≡ local_named l.name l.initial.fetched.items;
}
