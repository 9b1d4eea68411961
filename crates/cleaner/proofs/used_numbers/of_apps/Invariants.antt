use Rattle.std.proofs.Common.{◌≡◌, ◌++◌, drop, flat_map}
use Rattle.cleaner.specs.Used.{named_numbers}
use Rattle.cleaner.proofs.used_numbers.of_apps.Given as goal

abbrev pub invariant-loop-app : goal.invariant-loop-app
invariant-loop-app l =
    l.numbers.items ++ flat_map named_numbers (drop l.app-index l.apps)
    ≡ flat_map named_numbers l.apps
