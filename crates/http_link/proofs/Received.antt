-- How much a wire receives.
use Rattle.std.proofs.Common.{◌≡◌, ◌+◌, ℕ, List, length, take, Option, Result, Ok, Err, ap, ◌∙◌, arith, length-append, length-take}
use Rattle.std.specs.Result.{IfOk}
use Rattle.connections.specs.Wire.{Made, Receives}
use Rattle.http_link.specs.Pieces.{ReceivesAtMost}
use Rattle.http_link.specs.States.{left_on}

-- at most as many bytes as are answered
received_at_most : (old new : Option Made) (buf : List ℕ) (n : ℕ)
    → Receives old new buf n → ReceivesAtMost old new n
received_at_most old new buf n is =
    let before : length (left_on old) ≡ length is.last.left =
    ap (λ (made : Option Made). length (left_on made)) is.before in
    let after : length (left_on new) ≡ length is.left =
    ap (λ (made : Option Made). length (left_on made)) is.after in
    let given : length is.last.left ≡ length (take n buf) + length is.left =
    ap length is.given.given ∙ length-append (take n buf) is.left in
    omega (arith, before, after, given, length-take n buf)

-- where a call answers
pub receives_at_most : {E : Type 0} (r : Result ℕ E) (old new : Option Made) (buf : List ℕ)
    → IfOk r (λ n. Receives old new buf n) → IfOk r (ReceivesAtMost old new)
receives_at_most (Ok n) old new buf is = received_at_most old new buf n is
receives_at_most (Err e) old new buf is = tt
