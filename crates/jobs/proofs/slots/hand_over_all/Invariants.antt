use Rattle.std.proofs.Common.{◌≡◌, ℕ, ◌+◌, ◌<◌, [], length, take}
use Rattle.file_store.specs.declared.store.FileStore.{FileStore}
use Rattle.jobs.specs.Balance.{Balanced, times}
use Rattle.jobs.specs.HandOver.{gained}
use Rattle.jobs.specs.Kept.{Kept}
use Rattle.jobs.specs.Slots.{KeepFiles, slot_at}
use Rattle.jobs.proofs.HandedSlots.{Empties}
use Rattle.jobs.proofs.slots.hand_over_all.Given as goal

abbrev pub invariant-loop-need : goal.invariant-loop-need
invariant-loop-need l = record {
  balanced : (kept : Kept) (store : FileStore) → Balanced kept l.initial.slots [] store → Balanced (gained kept l.initial.slots (take l.need-index l.needs)) l.slots [] store;
  users : (at : ℕ) → at < length l.initial.slots → (slot_at l.slots at).users + times at (take l.need-index l.needs) ≡ (slot_at l.initial.slots at).users;
  files : KeepFiles l.initial.slots l.slots;
  empties : Empties l.initial.slots l.slots (take l.need-index l.needs);
}
