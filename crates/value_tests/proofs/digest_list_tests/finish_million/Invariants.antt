use Rattle.std.proofs.Common.{◌≡◌, ◌*◌}
use Rattle.digest_list.specs.Checker.{count_of}
use Rattle.value_tests.proofs.digest_list_tests.finish_million.Given as goal

abbrev pub invariant-loop-round : goal.invariant-loop-round
invariant-loop-round l = count_of l.checker ≡ l._round * 1000
