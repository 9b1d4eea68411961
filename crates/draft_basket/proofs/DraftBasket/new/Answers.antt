use Rattle.file_store.specs.Stores.{store_base}
use Rattle.draft_basket.proofs.HeldBytes.{past_none, whole_empty}
use Rattle.draft_basket.proofs.DraftBasket.new.Goals as goal

pub invariant_of-result : goal.invariant_of-result
invariant_of-result g c = record {
  whole = whole_empty (store_base c.args.store.now) c.restart.new.draft (g.D.Disk.seen c.args.disk.now) c.restart.ensures.filled;
  past_size = past_none c.restart.new.draft c.new.result.noted c.new.ensures;
}
