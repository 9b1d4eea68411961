use Rattle.std.proofs.Common.{◌≡◌, ◌≤◌, replicate, vec_capacity, vec_len}
use Rattle.store_state.proofs.marks.fill.Given as goal

abbrev pub invariant-loop : goal.invariant-loop
invariant-loop l = record {
  items : l.marks.items ≡ replicate l.counter l.mark;
  long : vec_len l.marks ≡ l.counter;
  room : l.count ≤ vec_capacity l.marks;
  more : vec_capacity l.initial.marks ≤ vec_capacity l.marks;
}
