use Rattle.std.proofs.Common.{take}
use Rattle.store_state.specs.Named.{AreNameIndexes}
use Rattle.store_state.proofs.table_parts.name_indexes.Given as goal

abbrev pub invariant-loop-view : goal.invariant-loop-view
invariant-loop-view l = AreNameIndexes (take l.view-index l.views) l.indexes.items
