use Rattle.std.proofs.Common.{rules, ℕ, ◌+◌, ◌≤◌, ◌∙◌, List, ◌++◌, length, take, arith}
use Rattle.std.proofs.lemmas.Grind.{common_steps}
use Rattle.std.proofs.lemmas.List.{length-append, length-take}
use Rattle.links.specs.declared.history.LinkCall.TheVariants.{Gave}
use Rattle.links.specs.Asked.{StopAtEnd}
use Rattle.links.specs.Link.{LinkState}
use Rattle.links.specs.Links.{link_at}
use Rattle.fetcher.proofs.HandedBytes.{handed_rest, handed_then}
use Rattle.fetcher.proofs.Histories.{AllGave, StopAtEmpty, empty_next, ends_next, gave_next, gave_some, most_next, most_took, took_all, took_gave}
use Rattle.fetcher.proofs.KeptLinks.{moves_then}
use Rattle.fetcher.proofs.Poured.{nothing_left, poured_all, poured_end, poured_more}
use Rattle.fetcher.proofs.file.pour.Goals as goal

pub returns-then-n-eq0-clause-poured : goal.returns-then-n-eq0-clause-poured
returns-then-n-eq0-clause-poured g c =
    let so = c.loop-done.invariant in
    let first : LinkState = link_at (g.L.Links.links c.args.links.now) c.args.place in
    let now : LinkState = link_at (g.L.Links.links c.loop-done.links) c.args.place in
    let next : LinkState = link_at (g.L.Links.links c.pour_piece.new.links) c.args.place in
    let T = g.B.Basket.taken in
    let fits : c.in-Ok.n ≤ length c.pour_piece.new.buf = omega (arith, c.if-n-eq0.true) in
    let more = poured_more StopAtEmpty c.loop-done.done c.in-Ok.n first now next c.args.checker.now c.loop-done.checker c.pour_piece.new.checker
    g.B.Basket.tells (T c.args.basket.now) (T c.loop-done.basket) (T c.pour_piece.new.basket) c.pour_piece.new.buf
    so.poured c.in-Ok.ensures.poured fits so.moves.site c.in-Ok.ensures.told c.in-Ok.ensures.noted (empty_next c.in-Ok.n c.pour_piece.new.buf c.if-n-eq0.true) in
    poured_end (c.loop-done.done + c.in-Ok.n) c.args.size first next c.args.checker.now c.pour_piece.new.checker
    g.B.Basket.tells (T c.args.basket.now) (T c.pour_piece.new.basket) more (omega (arith, c.if-n-eq0.true, so.within))
    (λ t. nothing_left c.in-Ok.n now.rest next.rest c.pour_piece.new.buf c.if-n-eq0.true (c.in-Ok.ensures.told (so.moves.site.tells.0 t)))

pub loop-done-preserved : goal.loop-done-preserved
loop-done-preserved g c =
    let so = c.loop-done.invariant in
    let first : LinkState = link_at (g.L.Links.links c.args.links.now) c.args.place in
    let now : LinkState = link_at (g.L.Links.links c.loop-done.links) c.args.place in
    let next : LinkState = link_at (g.L.Links.links c.pour_piece.new.links) c.args.place in
    let T = g.B.Basket.taken in
    let fits : c.in-Ok.n ≤ length c.pour_piece.new.buf = first_of (search rules, grind (arith, common_steps)) in
    let piece : List ℕ = take c.in-Ok.n c.pour_piece.new.buf in
    record {
      poured = poured_more AllGave c.loop-done.done c.in-Ok.n first now next c.args.checker.now c.loop-done.checker c.pour_piece.new.checker
          g.B.Basket.tells (T c.args.basket.now) (T c.loop-done.basket) (T c.pour_piece.new.basket) c.pour_piece.new.buf
          so.poured c.in-Ok.ensures.poured fits so.moves.site c.in-Ok.ensures.told c.in-Ok.ensures.noted
          (gave_next (Gave piece) (gave_some piece (omega (arith, length-take c.in-Ok.n c.pour_piece.new.buf, fits, c.if-n-eq0.false))));
      within = first_of (search rules, grind (arith, common_steps));
      counted = omega (arith, c.in-Ok.ensures.size, so.counted);
      moves = moves_then c.args.place (g.L.Links.links c.args.links.now) (g.L.Links.links c.loop-done.links) (g.L.Links.links c.pour_piece.new.links) so.moves c.in-Ok.ensures.moves;
      link = c.in-Ok.ensures.quiet ∙ so.link;
      basket = c.in-Ok.ensures.basket.quiet (λ e. cc e) ∙ so.basket;
      turned = handed_then g.B.Basket.turns_to g.met.B.Basket.turns_on c.loop-done.done c.in-Ok.n _ _ _ so.turned c.in-Ok.ensures.handed;
    }

pub returns-in-Err-clause-turned : goal.returns-in-Err-clause-turned
returns-in-Err-clause-turned g c =
    handed_rest g.B.Basket.turns_to g.met.B.Basket.turns_on c.loop-done.done _ c.args.size _ _ _
    c.loop-done.invariant.turned c.in-Err.ensures.turned (first_of (search rules, grind (arith, common_steps)))

pub returns-then-n-eq0-clause-turned : goal.returns-then-n-eq0-clause-turned
returns-then-n-eq0-clause-turned g c =
    handed_rest g.B.Basket.turns_to g.met.B.Basket.turns_on c.loop-done.done c.in-Ok.n c.args.size _ _ _
    c.loop-done.invariant.turned c.in-Ok.ensures.handed (omega (arith, c.if-n-eq0.true, c.loop-done.invariant.within))

pub returns-in-Err-clause-took : goal.returns-in-Err-clause-took
returns-in-Err-clause-took g c =
    let so = c.loop-done.invariant in
    most_next c.args.size _ (link_at (g.L.Links.links c.args.links.now) c.args.place)
    (link_at (g.L.Links.links c.loop-done.links) c.args.place) (link_at (g.L.Links.links c.pour_piece.new.links) c.args.place)
    so.poured.bytes so.poured.took c.in-Err.ensures.piece (first_of (search rules, grind (arith, common_steps, so.poured.counted)))

pub returns-then-n-eq0-clause-took : goal.returns-then-n-eq0-clause-took
returns-then-n-eq0-clause-took g c =
    let so = c.loop-done.invariant in
    let buf : List ℕ = c.pour_piece.new.buf in
    let piece : List ℕ = take c.in-Ok.n buf in
    let first : LinkState = link_at (g.L.Links.links c.args.links.now) c.args.place in
    let next : LinkState = link_at (g.L.Links.links c.pour_piece.new.links) c.args.place in
    most_took c.args.size first next (so.poured.bytes ++ piece)
    (took_gave StopAtEnd first (link_at (g.L.Links.links c.loop-done.links) c.args.place) next so.poured.bytes piece
    so.poured.took c.in-Ok.ensures.noted (ends_next (Gave piece)))
    (omega (arith, length-append so.poured.bytes piece, length-take c.in-Ok.n buf, c.if-n-eq0.true, so.poured.counted, so.within))

pub returns-clause-took : goal.returns-clause-took
returns-clause-took g c =
    let so = c.loop-done.invariant in
    let first : LinkState = link_at (g.L.Links.links c.args.links.now) c.args.place in
    let now : LinkState = link_at (g.L.Links.links c.loop-done.links) c.args.place in
    most_took c.args.size first now so.poured.bytes (took_all first now so.poured.bytes so.poured.took)
    (omega (arith, so.poured.counted, so.within))

pub returns-clause-poured : goal.returns-clause-poured
returns-clause-poured g c =
    let so = c.loop-done.invariant in
    poured_all c.loop-done.done c.args.size (link_at (g.L.Links.links c.args.links.now) c.args.place)
    (link_at (g.L.Links.links c.loop-done.links) c.args.place) c.args.checker.now c.loop-done.checker
    g.B.Basket.tells (g.B.Basket.taken c.args.basket.now) (g.B.Basket.taken c.loop-done.basket) so.poured
    (omega (arith, c.loop-done-test.false, so.within))
