use Rattle.std.proofs.Common.{◌≡◌, ◌<◌, ℕ, List, ◌++◌, length, reverse, All, arith, sym, ◌∙◌, ap, subst}
use Rattle.small_types.specs.Blocks.{AreApart}
use Rattle.file_store.proofs.Apart.{back_apart, back_below, back_few}
use Rattle.file_store.proofs.store.FileStore.release_blocks.Goals as goal

pub give_back-requires : goal.give_back-requires
give_back-requires c =
    let few = back_few c.args.self.now.blocks c.args.self.now.free.items c.args.blocks.now c.requires.apart c.args.self.now.below c.requires.within in
    omega (arith, few, ap length c.as_slice.ensures, c.args.self.now.room, c.args.self.now.free.ok)

pub invariant_of-self : goal.invariant_of-self
invariant_of-self c =
    let items : c.give_back.new.free.items ≡ c.args.self.now.free.items ++ reverse c.args.blocks.now =
    c.give_back.ensures.items ∙ ap (λ (l : List ℕ). c.args.self.now.free.items ++ reverse l) c.as_slice.ensures in
    record {
      limit = c.args.self.now.limit;
      base_limit = c.args.self.now.base_limit;
      room = omega (arith, c.give_back.ensures.capacity, c.args.self.now.room);
      below = subst (All (λ b. b < c.args.self.now.blocks)) (sym items) (back_below c.args.self.now.blocks c.args.self.now.free.items c.args.blocks.now c.args.self.now.below c.requires.within);
      apart = subst AreApart (sym items) (back_apart c.args.self.now.free.items c.args.blocks.now c.requires.apart);
    }
