use Rattle.std.proofs.Common.{◌≡◌, ◌<◌, ℕ, true, false, length, take, get_or, Contains}
use Rattle.file_store.proofs.Judged.{Judged}
use Rattle.file_store.proofs.marks.are_apart.Given as goal

abbrev pub invariant-loop-block : goal.invariant-loop-block
invariant-loop-block l = record {
  count : length l.marks.items ≡ l.blocks;
  marked : (k : ℕ) → k < l.block-index → get_or l.marks.items (get_or l.listed k 0) false ≡ true;
  only : (block : ℕ) → get_or l.marks.items block false ≡ true → Contains (take l.block-index l.listed) block;
  judged : Judged l.listed l.blocks l.block-index;
}
