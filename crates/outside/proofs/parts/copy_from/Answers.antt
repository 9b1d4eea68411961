use Rattle.std.proofs.Common.{◌≡◌, drop, ◌+◌, ℕ, List, ap, ◌∙◌, subst}
use Rattle.std.proofs.lemmas.List.{drop_min}
use Rattle.outside.specs.Streams.{Consumes}
use Rattle.outside.proofs.Front.{consumes}
use Rattle.outside.proofs.parts.copy_from.Goals as goal

pub returns-clause-bytes : goal.returns-clause-bytes
returns-clause-bytes c =
    let bytes : List ℕ = c.args.bytes.now in
    let start : ℕ = c.min-start.result in
    let n : ℕ = c.copy_front-n.result in
    let new : List ℕ = c.copy_front-n.new.buf in
    let same : drop start bytes ≡ drop c.args.place.now bytes = ap (λ (k : ℕ). drop k bytes) c.min-start.ensures ∙ drop_min c.args.place.now bytes in
    subst (λ (l : List ℕ). Consumes l (drop (start + n) bytes) new n) same (consumes bytes c.rest_from.result.now c.args.buf.now new start n c.rest_from.ensures c.copy_front-n.ensures.count c.copy_front-n.ensures.bytes c.requires)
