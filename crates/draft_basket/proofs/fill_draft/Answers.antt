use Rattle.std.proofs.Common.{◌≡◌, arith, rules}
use Rattle.file_store.specs.Stores.{store_base}
use Rattle.draft_basket.specs.Basket.{held_bytes}
use Rattle.draft_basket.proofs.HeldBytes.{held_from_taken}
use Rattle.draft_basket.proofs.fill_draft.Goals as goal

pub returns-clause-held : goal.returns-clause-held
returns-clause-held g c = λ fits.
    let kept : held_bytes (store_base c.fill.new.basket.store.now) c.fill.new.basket.draft.now (g.D.Disk.seen c.fill.new.basket.disk.now) ≡ c.args.bytes.now =
    held_from_taken (store_base c.fill.new.basket.store.now) c.fill.new.basket.draft.now c.fill.new.basket.is_over c.fill.new.basket.past.noted c.args.bytes.now (g.D.Disk.seen c.fill.new.basket.disk.now)
    c.fill.new.basket.whole c.fill.new.basket.past_size (c.in_ok-fill.ensures.bytes tt) (omega (arith, fits, c.fill.ensures.turned.4.size, c.new-basket.ensures.size)) in
    search (rules, kept)
