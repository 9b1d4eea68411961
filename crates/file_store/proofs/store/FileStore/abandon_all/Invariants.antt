use Rattle.std.proofs.Common.{◌≡◌, ◌++◌}
use Rattle.file_store.specs.Stores.{AreUsed, SameRange, blocks_of_all, free_of}
use Rattle.file_store.proofs.store.FileStore.abandon_all.Given as goal

abbrev pub invariant-loop-draft : goal.invariant-loop-draft
invariant-loop-draft l = record {
  used : AreUsed l.self (blocks_of_all l.left.items);
  range : SameRange l.initial.self l.self;
  free : blocks_of_all l.left.items ++ free_of l.self ≡ blocks_of_all l.fn.drafts ++ free_of l.initial.self;
}

abbrev pub decreases-loop-draft : goal.decreases-loop-draft
decreases-loop-draft l = goal.left-loop-draft l
