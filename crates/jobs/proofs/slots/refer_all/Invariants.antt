use Rattle.std.proofs.Common.{◌≡◌, ◌≤◌, [], length, vec_capacity}
use Rattle.file_store.specs.Stores.{SameRange}
use Rattle.jobs.specs.Balance.{Balanced}
use Rattle.jobs.specs.NewJobs.{AllSuit, HasTaken, Tell}
use Rattle.jobs.specs.Kept.{Kept}
use Rattle.jobs.proofs.slots.refer_all.Given as goal

abbrev pub invariant-loop-k : goal.invariant-loop-k
invariant-loop-k l = record {
  balanced : (tables : Kept) → Tell l.flags tables l.entries → Balanced tables l.initial.slots.items [] l.initial.store → Balanced tables l.slots.items [] l.store;
  taken : HasTaken l.initial.slots.items l.slots.items l.needs.items;
  count : length l.needs.items ≡ l.k;
  suits : AllSuit l.slots.items l.needs.items l.entries;
  room : length l.entries ≤ vec_capacity l.needs;
  range : SameRange l.initial.store l.store;
}
