use Rattle.std.proofs.Common.{ap, refl, length}
use Rattle.file_store.specs.Stores.{store_base}
use Rattle.draft_basket.specs.Turned.{turned_same}
use Rattle.draft_basket.proofs.HeldBytes.{past_kept, taken_after, whole_after}
use Rattle.draft_basket.proofs.DraftBasketBasket.take.Goals as goal

pub invariant_of-self-2 : goal.invariant_of-self-2
invariant_of-self-2 g c = record {
  whole = whole_after (store_base c.args.self.now.store.now) (store_base c.store_piece.new.self) c.args.self.now.draft.now c.store_piece.new.draft c.args.bytes.now (g.D.Disk.seen c.args.self.now.disk.now) (g.D.Disk.seen c.store_piece.new.disk) c.store_piece.result
      (ap store_base c.store_piece.ensures.store) c.args.self.now.whole c.store_piece.ensures.held c.store_piece.ensures.kept c.store_piece.ensures.draft;
  past_size = past_kept c.args.self.now.draft.now c.store_piece.new.draft c.args.self.now.is_over c.args.self.now.past.noted c.if-self.false c.args.self.now.past_size;
}

pub returns-in-Ok-clause-bytes : goal.returns-in-Ok-clause-bytes
returns-in-Ok-clause-bytes g c =
    taken_after (store_base c.args.self.now.store.now) (store_base c.store_piece.new.self) c.args.self.now.draft.now c.store_piece.new.draft c.args.bytes.now c.args.self.now.past.noted (g.D.Disk.seen c.args.self.now.disk.now) (g.D.Disk.seen c.store_piece.new.disk)
    (ap store_base c.in-Ok.ensures.store) (c.args.self.now.past_size.none c.if-self.false) c.args.self.now.whole c.in-Ok.ensures.held

pub returns-then-self-clause-turned : goal.returns-then-self-clause-turned
returns-then-self-clause-turned g c = (refl, refl, refl, refl, turned_same g.D.Disk (store_base c.args.self.now.store.now) (length c.args.bytes.now) c.args.self.now.draft.now c.args.self.now.disk.now)
