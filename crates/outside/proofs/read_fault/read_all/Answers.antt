use Rattle.std.proofs.Common.{◌≡◌, ◌++◌, [], List, ℕ, sym, ◌∙◌, ap, take, drop}
use Rattle.std.proofs.lemmas.List.{append-nil, take_all, drop_all}
use Rattle.outside.proofs.read_fault.read_all.Goals as goal

pub returns-then-n-eq0-clause-bytes : goal.returns-then-n-eq0-clause-bytes
returns-then-n-eq0-clause-bytes g c t =
    let empty : g.S.Source.left c.loop-piece.source ≡ [] = (c.in-Ok.ensures.bytes t).end c.if-n-eq0.true in
    let all : g.S.Source.left c.args.source.now ≡ c.loop-piece.bytes.items =
    c.loop-piece.invariant.given t ∙ ap (λ (l : List ℕ). c.loop-piece.bytes.items ++ l) empty ∙ append-nil c.loop-piece.bytes.items in
    sym (ap (take c.args.limit) all ∙ take_all c.args.limit c.loop-piece.bytes.items c.loop-piece.invariant.within)

pub returns-then-n-eq0-clause-left : goal.returns-then-n-eq0-clause-left
returns-then-n-eq0-clause-left g c t =
    let consumed = c.in-Ok.ensures.bytes t in
    let empty : g.S.Source.left c.loop-piece.source ≡ [] = consumed.end c.if-n-eq0.true in
    let all : g.S.Source.left c.args.source.now ≡ c.loop-piece.bytes.items =
    c.loop-piece.invariant.given t ∙ ap (λ (l : List ℕ). c.loop-piece.bytes.items ++ l) empty ∙ append-nil c.loop-piece.bytes.items in
    let none : drop c.args.limit (g.S.Source.left c.args.source.now) ≡ [] =
    ap (drop c.args.limit) all ∙ drop_all c.args.limit c.loop-piece.bytes.items c.loop-piece.invariant.within in
    let nothing : take c.in-Ok.n c.read.new.buf ≡ [] = ap (λ (n : ℕ). take n c.read.new.buf) c.if-n-eq0.true in
    sym (consumed.given ∙ ap (λ (l : List ℕ). l ++ g.S.Source.left c.read.new.self) nothing) ∙ empty ∙ sym none
