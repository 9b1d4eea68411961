use Rattle.std.proofs.Common.{refl, arith}
use Rattle.std.proofs.Math.Nat.{le_refl}
use Rattle.file_store.specs.Stores.{draft_blocks, store_base}
use Rattle.file_store.proofs.BlockWrites.{only_start}
use Rattle.draft_basket.proofs.HeldBytes.{past_none, whole_empty}
use Rattle.draft_basket.proofs.DraftBasketBasket.restart.Goals as goal

pub invariant_of-self : goal.invariant_of-self
invariant_of-self g c = record {
  whole = whole_empty (store_base c.args.self.now.store.now) c.restart.new.draft (g.D.Disk.seen c.args.self.now.disk.now) c.restart.ensures.filled;
  past_size = past_none c.restart.new.draft c.new-self.result.noted c.new-self.ensures;
}

pub returns-clause-turned : goal.returns-clause-turned
returns-clause-turned g c = (
  refl,
  refl,
  refl,
  refl,
  record {
    blocks = c.restart.ensures.blocks;
    size = c.restart.ensures.size;
    only = only_start g.D.Disk (store_base c.args.self.now.store.now) (draft_blocks c.args.self.now.draft.now) c.args.self.now.disk.now;
    told = λ tells. tells;
    total = le_refl (g.D.Disk.total c.args.self.now.disk.now);
    within = omega arith;
  },
)
