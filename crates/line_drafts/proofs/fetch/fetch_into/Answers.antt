use Rattle.std.proofs.Common.{◌≡◌, arith, rules}
use Rattle.file_store.specs.Stores.{draft_size, filled_of, store_base}
use Rattle.draft_basket.specs.Basket.{held_bytes}
use Rattle.line_drafts.proofs.Whole.{file_exact, file_fills, file_held}
use Rattle.line_drafts.proofs.fetch.fetch_into.Goals as goal

pub returns-in-Ok-clause-file : goal.returns-in-Ok-clause-file
returns-in-Ok-clause-file g c =
    let basket = c.fetch_file.new.basket in
    let base = store_base basket.store.now in
    let seen = g.D.Disk.seen basket.disk.now in
    let sized : draft_size basket.draft.now ≡ c.args.size = omega (arith, c.in-Ok.ensures.turned.turns.4.size, c.new-basket.ensures.size, c.requires.size) in
    let kept : held_bytes base basket.draft.now seen ≡ c.in-Ok.ensures.file.bytes =
    file_held c.args.list.now c.args.size c.args.target.now (g.L.Links.links c.args.links.now) (g.L.Links.links c.fetch_file.new.links) base basket.draft.now basket.is_over basket.past.noted seen
    basket.whole basket.past_size sized c.in-Ok.ensures.file in (
      c.in-Ok.ensures.file.bytes,
      file_exact c.args.list.now c.args.size c.args.target.now (g.L.Links.links c.args.links.now) (g.L.Links.links c.fetch_file.new.links) base basket.draft.now basket.is_over basket.past.noted seen
          basket.whole basket.past_size sized c.in-Ok.ensures.file,
      search (rules, kept),
    )

pub returns-in-Ok-clause-filled : goal.returns-in-Ok-clause-filled
returns-in-Ok-clause-filled g c =
    let basket = c.fetch_file.new.basket in
    let base = store_base basket.store.now in
    let seen = g.D.Disk.seen basket.disk.now in
    let sized : draft_size basket.draft.now ≡ c.args.size = omega (arith, c.in-Ok.ensures.turned.turns.4.size, c.new-basket.ensures.size, c.requires.size) in
    let full : filled_of basket.draft.now ≡ draft_size basket.draft.now =
    file_fills c.args.list.now c.args.size c.args.target.now (g.L.Links.links c.args.links.now) (g.L.Links.links c.fetch_file.new.links) base basket.draft.now basket.is_over basket.past.noted seen
    basket.whole basket.past_size sized c.in-Ok.ensures.file in
    search (rules, full)

pub returns-in-Ok-clause-idle : goal.returns-in-Ok-clause-idle
returns-in-Ok-clause-idle g c = λ same.
    let none = c.in-Ok.ensures.idle same in
    let turned = none.turns.4 in
    let still : g.D.Disk.total c.fetch_file.new.basket.disk.now ≡ g.D.Disk.total c.new-basket.result.disk.now = omega (arith, none.within, turned.total, turned.within) in
    search (rules, still)

pub returns-in-Err-clause-idle : goal.returns-in-Err-clause-idle
returns-in-Err-clause-idle g c = λ same.
    let none = c.in-Err.ensures.idle same in
    let turned = none.turns.4 in
    let still : g.D.Disk.total c.fetch_file.new.basket.disk.now ≡ g.D.Disk.total c.new-basket.result.disk.now = omega (arith, none.within, turned.total, turned.within) in
    search (rules, still)
