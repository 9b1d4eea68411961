use Rattle.std.proofs.Common.{◌≡◌, ◌+◌, ◌-◌, ◌≤◌, ◌++◌, vec_capacity, vec_len}
use Rattle.std.specs.List.{range_with_len}
use Rattle.store_state.proofs.numbers.push_numbers.Given as goal

abbrev pub invariant-loop-number : goal.invariant-loop-number
invariant-loop-number l = record {
  items : l.numbers.items ++ range_with_len l.number (l.end - l.number) ≡ l.initial.numbers.items
      ++ range_with_len l.from (l.end - l.from);
  room : vec_len l.numbers + (l.end - l.number) ≤ vec_capacity l.numbers;
}
