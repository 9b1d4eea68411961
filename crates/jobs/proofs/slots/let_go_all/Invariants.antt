use Rattle.std.proofs.Common.{◌≡◌, ℕ, ◌+◌, ◌<◌, [], length, take}
use Rattle.file_store.specs.Stores.{SameRange}
use Rattle.jobs.specs.Balance.{KeepsBalance, times}
use Rattle.jobs.specs.Slots.{KeepUsed, slot_at}
use Rattle.jobs.proofs.slots.let_go_all.Given as goal

abbrev pub invariant-loop-need : goal.invariant-loop-need
invariant-loop-need l = record {
  balanced : KeepsBalance l.initial.slots [] l.initial.store l.slots [] l.store;
  users : (at : ℕ) → at < length l.initial.slots → (slot_at l.slots at).users + times at (take l.need-index l.needs) ≡ (slot_at l.initial.slots at).users;
  kept : KeepUsed l.initial.slots l.slots;
  range : SameRange l.initial.store l.store;
}
