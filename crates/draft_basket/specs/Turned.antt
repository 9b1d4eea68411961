-- Calls of a basket one after another.
use Rattle.std.specs.Prelude.{◌≡◌, ℕ, ◌+◌, List, refl}
use Rattle.std.proofs.Common.{◌∙◌, ap, subst, arith}
use Rattle.std.proofs.Math.Nat.{le_refl, le_trans}
use Rattle.disks.specs.declared.disk.Disk.{Ghosts}
use Rattle.file_store.specs.Stores.{draft_blocks, store_base}
use Rattle.file_store.specs.Writes.{WritesOnly}
use Rattle.file_store.specs.declared.draft.Draft.{Draft}
use Rattle.file_store.specs.declared.store.FileStore.{FileStore}
use Rattle.file_store.proofs.KeptContents.{writes_then}
use Rattle.file_store.proofs.BlockWrites.{only_start}
use Rattle.draft_basket.specs.Basket.{Turned}

-- where nothing changed, any number of bytes may have been handed
pub turned_same : {D : Type 0} (on : Ghosts D) (base n : ℕ) (draft : Draft) (disk : D)
    → Turned on base n draft draft disk disk
turned_same on base n draft disk = record {
  blocks = refl;
  size = refl;
  only = only_start on base (draft_blocks draft) disk;
  told = λ tells. tells;
  total = le_refl (on.total disk);
  within = omega arith;
}

pub turned_on : {D : Type 0} (on : Ghosts D) (m n : ℕ) (store_a store_b : FileStore)
    (draft_a draft_b draft_c : Draft) (disk_a disk_b disk_c : D) → store_b ≡ store_a
    → Turned on (store_base store_a) m draft_a draft_b disk_a disk_b
    → Turned on (store_base store_b) n draft_b draft_c disk_b disk_c
    → Turned on (store_base store_a) (m + n) draft_a draft_c disk_a disk_c
turned_on on m n store_a store_b draft_a draft_b draft_c disk_a disk_b disk_c is one two = record {
  blocks = two.blocks ∙ one.blocks;
  size = two.size ∙ one.size;
  only = writes_then on (store_base store_a) (draft_blocks draft_a) disk_a disk_b disk_c one.only
      (subst (λ (b : ℕ). WritesOnly on b (draft_blocks draft_a) disk_b disk_c) (ap store_base is)
      (subst (λ (l : List ℕ). WritesOnly on (store_base store_b) l disk_b disk_c) one.blocks
      two.only));
  told = λ tells. one.told (two.told tells);
  total = le_trans one.total two.total;
  within = omega (arith, one.within, two.within);
}
