use Rattle.std.proofs.Common.{rules, ◌≡◌, ℕ, ◌≤◌, List, [], ◌++◌, length, take, sym, subst, ◌∙◌, ap, append_assoc, arith}
use Rattle.std.proofs.lemmas.Grind.{common_steps}
use Rattle.std.proofs.lemmas.List.{append-nil, length-take, take_all}
use Rattle.links.specs.declared.history.LinkCall.TheVariants.{Gave}
use Rattle.links.specs.Link.{LinkState}
use Rattle.links.specs.Links.{link_at}
use Rattle.fetcher.specs.Once.{Took}
use Rattle.fetcher.proofs.Histories.{AllGave, gave_next, gave_some, most_next, most_took, piece_broke, piece_gave, took_all, took_end, took_gave}
use Rattle.fetcher.proofs.KeptLinks.{moves_then}
use Rattle.fetcher.proofs.text.read_rest.Goals as goal

pub returns-then-n-eq0-clause-bytes : goal.returns-then-n-eq0-clause-bytes
returns-then-n-eq0-clause-bytes g c = λ t.
    let so = c.loop-piece.invariant in
    let bytes = c.loop-piece.bytes.items in
    let empty : (link_at (g.L.Links.links c.loop-piece.links) c.args.place).rest ≡ [] =
    (c.in-Ok.ensures.takes.bytes (so.moves.site.tells.0 t)).end c.if-n-eq0.true in
    let all : (link_at (g.L.Links.links c.args.links.now) c.args.place).rest ≡ bytes =
    so.given t ∙ ap (λ (l : List ℕ). bytes ++ l) empty ∙ append-nil bytes in
    sym (ap (take c.args.most) all ∙ take_all c.args.most bytes so.within)

pub loop-piece-preserved : goal.loop-piece-preserved
loop-piece-preserved g c =
    let so = c.loop-piece.invariant in
    let bytes = c.loop-piece.bytes.items in
    let piece : List ℕ = take c.in-Ok.n c.piece.new.buf in
    let fits : c.in-Ok.n ≤ length c.piece.new.buf = first_of (search rules, grind (arith, common_steps)) in
    let items : c.extend_from_slice.new.self.items ≡ bytes ++ piece = first_of (search rules, grind (arith, common_steps)) in
    record {
      given = λ t.
          let step = (c.in-Ok.ensures.takes.bytes (so.moves.site.tells.0 t)).given in
          so.given t ∙ ap (λ (l : List ℕ). bytes ++ l) step
          ∙ sym (append_assoc bytes piece (link_at (g.L.Links.links c.piece.new.self) c.args.place).rest)
          ∙ ap (λ (l : List ℕ). l ++ (link_at (g.L.Links.links c.piece.new.self) c.args.place).rest) (sym items);
      took = subst (λ (l : List ℕ). Took AllGave (link_at (g.L.Links.links c.args.links.now) c.args.place) (link_at (g.L.Links.links c.piece.new.self) c.args.place) l)
          (sym items)
          (took_gave AllGave (link_at (g.L.Links.links c.args.links.now) c.args.place) (link_at (g.L.Links.links c.loop-piece.links) c.args.place)
          (link_at (g.L.Links.links c.piece.new.self) c.args.place) bytes piece so.took c.in-Ok.ensures.noted
          (gave_next (Gave piece) (gave_some piece (omega (arith, length-take c.in-Ok.n c.piece.new.buf, fits, c.if-n-eq0.false)))));
      within = first_of (search rules, grind (arith, common_steps));
      count = c.in-Ok.ensures.takes.counts.quiet ∙ so.count;
      moves = moves_then c.args.place (g.L.Links.links c.args.links.now) (g.L.Links.links c.loop-piece.links) (g.L.Links.links c.piece.new.self) so.moves
          (record { only = c.in-Ok.ensures.only; site = c.in-Ok.ensures.takes.site; later = c.in-Ok.ensures.takes.counts.later });
    }

pub returns-then-n-eq0-clause-took : goal.returns-then-n-eq0-clause-took
returns-then-n-eq0-clause-took g c =
    let so = c.loop-piece.invariant in
    let first : LinkState = link_at (g.L.Links.links c.args.links.now) c.args.place in
    let next : LinkState = link_at (g.L.Links.links c.piece.new.self) c.args.place in
    took_end first (link_at (g.L.Links.links c.loop-piece.links) c.args.place) next c.loop-piece.bytes.items c.in-Ok.n
    c.piece.new.buf so.took c.in-Ok.ensures.noted c.if-n-eq0.true

pub returns-then-n-eq0-clause-most : goal.returns-then-n-eq0-clause-most
returns-then-n-eq0-clause-most g c =
    let so = c.loop-piece.invariant in
    let first : LinkState = link_at (g.L.Links.links c.args.links.now) c.args.place in
    let next : LinkState = link_at (g.L.Links.links c.piece.new.self) c.args.place in
    most_took c.args.most first next c.loop-piece.bytes.items
    (took_end first (link_at (g.L.Links.links c.loop-piece.links) c.args.place) next c.loop-piece.bytes.items c.in-Ok.n
    c.piece.new.buf so.took c.in-Ok.ensures.noted c.if-n-eq0.true) so.within

pub returns-in-Err-clause-most : goal.returns-in-Err-clause-most
returns-in-Err-clause-most g c =
    let so = c.loop-piece.invariant in
    let first : LinkState = link_at (g.L.Links.links c.args.links.now) c.args.place in
    let now : LinkState = link_at (g.L.Links.links c.loop-piece.links) c.args.place in
    let next : LinkState = link_at (g.L.Links.links c.piece.new.self) c.args.place in
    most_next c.args.most 0 first now next c.loop-piece.bytes.items so.took (piece_broke 0 now next c.in-Err.ensures.noted)
    (omega (arith, so.within))

pub returns-in_err-extend_from_slice-clause-most : goal.returns-in_err-extend_from_slice-clause-most
returns-in_err-extend_from_slice-clause-most g c =
    let so = c.loop-piece.invariant in
    let first : LinkState = link_at (g.L.Links.links c.args.links.now) c.args.place in
    let now : LinkState = link_at (g.L.Links.links c.loop-piece.links) c.args.place in
    let next : LinkState = link_at (g.L.Links.links c.piece.new.self) c.args.place in
    let piece : List ℕ = take c.in-Ok.n c.piece.new.buf in
    most_next c.args.most c.in-Ok.n first now next c.loop-piece.bytes.items so.took
    (piece_gave c.in-Ok.n now next piece (omega (arith, length-take c.in-Ok.n c.piece.new.buf)) c.in-Ok.ensures.noted)
    (first_of (search rules, grind (arith, common_steps)))

pub returns-clause-took : goal.returns-clause-took
returns-clause-took g c =
    took_all (link_at (g.L.Links.links c.args.links.now) c.args.place) (link_at (g.L.Links.links c.loop-piece.links) c.args.place)
    c.loop-piece.bytes.items c.loop-piece.invariant.took

pub returns-clause-most : goal.returns-clause-most
returns-clause-most g c =
    let first : LinkState = link_at (g.L.Links.links c.args.links.now) c.args.place in
    let now : LinkState = link_at (g.L.Links.links c.loop-piece.links) c.args.place in
    most_took c.args.most first now c.loop-piece.bytes.items (took_all first now c.loop-piece.bytes.items c.loop-piece.invariant.took)
    c.loop-piece.invariant.within
