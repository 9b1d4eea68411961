use Rattle.std.proofs.Common.{◌≡◌, map}
use Rattle.install_plan.specs.GroupReady.{ungrouped}
use Rattle.install_plan.proofs.group.without_group.Given as goal

abbrev pub invariant-loop-file : goal.invariant-loop-file
invariant-loop-file l = l.made.items ≡ map ungrouped l.yielded
